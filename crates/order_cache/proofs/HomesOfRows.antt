-- What a map of bounded size does leaves the rows of one home.
use Rattle.std.proofs.Common.{◌≡◌, ℕ, Bool, List, Some, Result, Ok, Err, OnOk, OnErr, ◌∙◌, inl, inr}
use Rattle.std.specs.Map.{lookup}
use Rattle.lru.specs.LruCache.{LruCache, lru_cache, promoted, put_entries}
use Rattle.lru.proofs.CallerLemmas.{Contains-promoted, Contains-lookup, Contains-put_entries}
use Rattle.order_cache.specs.Rows.{AreOf}

module _ {K : Type 0} (home : List ℕ) where
  pub AreOf-promoted : (test : K → Bool) (rows : List (K × List ℕ)) → AreOf home rows → AreOf home (promoted test rows)
  AreOf-promoted test rows are row has = are row (Contains-promoted test rows row has)

  pub AreOf-put_entries : (eq : K → K → Bool) (cache : LruCache K (List ℕ)) (key : K) (value : List ℕ) → AreOf home cache.entries → value ≡ home
      → AreOf home (put_entries eq cache key value)
  AreOf-put_entries eq cache key value are is row has = elim (Contains-put_entries eq cache key value row has) [
    | inl old ↦ are row old
    | inr new ↦ new.0 ∙ is
  ]

  -- what `put` leaves, whether it found memory or not
  pub AreOf-put : {A E : Type 0} (result : Result A E) (eq : K → K → Bool) (old new : LruCache K (List ℕ)) (key : K) (value : List ℕ)
      → OnOk result (new ≡ lru_cache (put_entries eq old key value) old.cap) → OnErr result (new ≡ old) → AreOf home old.entries → value ≡ home → AreOf home new.entries
  AreOf-put (Ok a) eq old new key value stored kept are is = rw stored (AreOf-put_entries eq old key value are is)
  AreOf-put (Err e) eq old new key value stored kept are is = rw kept are

  -- a row that is found is of that home
  pub AreOf-lookup : (test : K → Bool) (rows : List (K × List ℕ)) (value : List ℕ) → AreOf home rows → lookup test rows ≡ Some value → value ≡ home
  AreOf-lookup test rows value are found = let row = Contains-lookup test rows value found in are (row.0, value) row.1
