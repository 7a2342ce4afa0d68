-- What the command line makes of options and plain words after `replay`, after `serve` and after `load`.
use Rattle.std.proofs.Common.{◌≡◌, ◌∙◌, ℕ, suc, ◌+◌, ◌≤◌, Bool, true, false, not, ◌&&◌, ◌||◌, cond, List, [], ◌∷◌, ◌++◌, map, Option, Some, None, refl, sym, ap, ap₂, subst, codes, fold, length, nat_le, append_assoc, append-nil, is_some, arith, if◌then◌else◌}
use Rattle.std.proofs.lemmas.Bool.{le-leb, or_right}
use Rattle.std.proofs.lemmas.List.{length-append}
use Rattle.std.proofs.lemmas.Slice.Eq.{bytes_eq-Decides}
use Rattle.std.specs.List.{filter, list_all, list_any}
use Rattle.std.specs.Str.{bytes_eq}
use Rattle.clap.specs.Words.{App, Row, Rule, Text, is_simple, subcommand_of, takes}
use Rattle.clap.specs.declared.builder.value_parser.Reading.{Reading}
use Rattle.clap.specs.declared.builder.value_parser.Reading.TheVariants.{AsWritten}
use Rattle.clap.specs.declared.parser.matches.ValueSource.TheVariants.{CommandLine}
use Rattle.trace_types.specs.text.Name.{is_between}
use Rattle.trace_types.specs.text.Reading.{number_of}
use Rattle.clap.specs.Lexer.{long_of, short_of, usize_max}
use Rattle.clap.specs.ValueTests.{is_unsigned_in}
use Rattle.clap.specs.Simple.{Shape, built, built_leaf, inherited, marked_built, with_leaf_noted, names_of, entered, with_index, filled}
use Rattle.clap.specs.Takes.{walk_passes, turn_passes, word_passes, step_passes, values_pass, settle_passes, default_passes, is_given, is_valid, level_passes, entered_passes, use_passes}
use Rattle.clap.specs.Walk.{Walk, Held, Waiting, walked, walk_from, nothing_held, idle, option, positional, positional_held, reading_by, after_step, plain_word, subcommand_met, subcommand_or_other, default_rows, finished, has_row, settled, settled_rows, stop_after, value, values_or_missing, walk, with_default, with_values, without}
use Rattle.clap.proofs.WalkLemmas.{both as and_is_true, walk_stopped}
use Rattle.command_line.specs.Demand.{Role, Tenant, Events, Tasks, Messages, Cache, Export, Port, Workers, Sessions, Part, is_plain, is_role, most_of, number_up_to, option_of, replay_options, service_options, words_for}
use Rattle.command_line.specs.Reading.{load_app, program_app, replay_app, serve_app, tenant_rule}
use Rattle.command_line.proofs.Amounts.{passes, spells}
use Rattle.command_line.proofs.Optional.{kept}
use Rattle.command_line.proofs.Rows.{grown, row_beside, row_in, row_with, twice, unfound}

-- the commands that take tenants
pub data Verb : Type 0 where
  Replays : Verb
  Serves : Verb
  Loads : Verb

abbrev pub name_of : Verb → Text
name_of Replays = codes "replay"
name_of Serves = codes "serve"
name_of Loads = codes "load"

abbrev app_of : Verb → App
app_of Replays = replay_app
app_of Serves = serve_app
app_of Loads = load_app

abbrev pub options_of : Verb → List Role
options_of Replays = replay_options
options_of Serves = service_options
options_of Loads = []

abbrev pub has_option : Verb → Role → Bool
has_option verb role = list_any (is_role role) (options_of verb)

-- whether a part may be of this role
abbrev pub has_role : Verb → Role → Bool
has_role verb role = is_role Tenant role || has_option verb role

-- the command, as it is built
abbrev pub shape : Verb → Shape
shape verb = built_leaf (inherited (with_leaf_noted (marked_built program_app.top)) (app_of verb).top)

abbrev pub rules : Verb → List Rule
rules verb = (shape verb).rules

pub simple : is_simple program_app ≡ true
simple = refl

abbrev tenant_built : Rule
tenant_built = with_index 1 (filled tenant_rule)

abbrev pub id_of : Role → Text
id_of Tenant = codes "TENANT"
id_of Events = codes "events"
id_of Tasks = codes "tasks"
id_of Messages = codes "messages"
id_of Cache = codes "cache"
id_of Export = codes "export"
id_of Port = codes "port"
id_of Workers = codes "workers"
id_of Sessions = codes "sessions"

-- the words of a part, and those after it
abbrev pub spelled_with : Role → Text → List Text → List Text
spelled_with Tenant word words = word ∷ words
spelled_with role word words = option_of role ∷ word ∷ words

abbrev pub spelled : List Part → List Text
spelled [] = []
spelled (part ∷ parts) = spelled_with part.role part.word (spelled parts)

-- ---- the rows

-- the row of these words in this role
abbrev pub row_of : Role → List Text → Option Row
row_of role [] = None
row_of role (word ∷ words) = Some (record { id = id_of role; values = word ∷ words; count = None; source = Some CommandLine; reading = AsWritten })

abbrev added : Role → Text → List Row → List Row
added role word rows = with_values (id_of role) AsWritten CommandLine (word ∷ []) rows

-- the words of each role so far
abbrev Seen : Type 0
Seen = Role → List Text

abbrev with_word : Seen → Role → Text → Seen
with_word seen role word other = if is_role other role then seen other ++ word ∷ [] else seen other

itself : (role : Role) → bytes_eq (id_of role) (id_of role) ≡ true
itself Tenant = refl
itself role = refl

pub is_itself : (role : Role) → is_role role role ≡ true
is_itself Tenant = refl
is_itself role = refl

pub same_role : (a b : Role) → is_role a b ≡ true → a ≡ b
same_role Tenant Tenant e = cc
same_role a Tenant e = cc
same_role a b e = cc

apart : (a b : Role) → is_role a b ≡ false → bytes_eq (id_of b) (id_of a) ≡ false
apart Tenant Tenant e = cc
apart a Tenant e = cc
apart a b e = cc

grown_is : (role : Role) (word : Text) (words : List Text) → Some (grown (id_of role) AsWritten (word ∷ []) (row_of role words)) ≡ row_of role (words ++ word ∷ [])
grown_is role word [] = refl
grown_is role word (first ∷ words) = refl

rows_with : (seen : Seen) (role : Role) (word : Text) (rows : List Row) → ((other : Role) → row_in (id_of other) rows ≡ row_of other (seen other))
    → (other : Role) → row_in (id_of other) (added role word rows) ≡ row_of other (with_word seen role word other)
rows_with seen role word rows are other = go (is_role other role) refl
  where
    there : row_in (id_of role) (added role word rows) ≡ row_of role (seen role ++ word ∷ [])
    there = row_with (id_of role) AsWritten (word ∷ []) rows (itself role)
        ∙ (ap (λ row. Some (grown (id_of role) AsWritten (word ∷ []) row)) (are role) ∙ grown_is role word (seen role))

    go : (b : Bool) → is_role other role ≡ b → row_in (id_of other) (added role word rows) ≡ row_of other (if b then seen other ++ word ∷ [] else seen other)
    go true is = subst (λ one. row_in (id_of one) (added role word rows) ≡ row_of one (seen one ++ word ∷ [])) (sym (same_role other role is)) there
    go false is = row_beside (id_of role) (id_of other) AsWritten (word ∷ []) rows (apart other role is) ∙ are other

-- ---- what is held

-- what is held after one more part
abbrev met : Verb → Role → Text → Held → Held
met verb Tenant word held = positional_held (rules verb) tenant_built word held
met verb role word held = record (settled (rules verb) held) { pending = Some (id_of role, word ∷ []) }

abbrev pending_length : Option (Text × List Text) → ℕ
pending_length None = 0
pending_length (Some pending) = length pending.1

-- what is held between two parts
record Holds (verb : Verb) (seen : Seen) (count : ℕ) (held : Held) : Type 0 where
  rows : (role : Role) → row_in (id_of role) (settled_rows (rules verb) held.pending held.rows) ≡ row_of role (seen role)
  settles : settle_passes (rules verb) false held ≡ true
  pending : pending_length held.pending ≤ count

-- whether the word of an option fits it: its number is in the range
abbrev fits_option : Role → Text → Bool
fits_option Export word = true
fits_option role word = is_unsigned_in 1 (most_of role) word

-- what is asked of a word in its role
abbrev FitsNow : Role → List Text → Text → Type 0
FitsNow Tenant before word = is_plain word ≡ true
FitsNow role before word = (before ≡ []) × (is_plain word ≡ true) × (fits_option role word ≡ true)

no_values : (words : List Text) → values_or_missing tenant_built words ≡ words
no_values [] = refl
no_values (word ∷ words) = refl

texts_pass : (words : List Text) → values_pass tenant_built words ≡ true
texts_pass [] = refl
texts_pass (word ∷ words) = texts_pass words

-- the tenants that are pending
tenant_rows : (verb : Verb) (words : List Text) (rows : List Row)
    → settled_rows (rules verb) (Some (codes "TENANT", words)) rows ≡ with_values (codes "TENANT") AsWritten CommandLine (values_or_missing tenant_built words) rows
tenant_rows Replays words rows = refl
tenant_rows verb words rows = refl

tenant_settles : (verb : Verb) (words : List Text) (rows : List Row) (skip : ℕ)
    → settle_passes (rules verb) false (record { rows = rows; pending = Some (codes "TENANT", words); skip = skip }) ≡ use_passes false tenant_built words rows
tenant_settles Replays words rows skip = refl
tenant_settles verb words rows skip = refl

-- one more tenant among those that are pending
more_rows : (verb : Verb) (word : Text) (words : List Text) (rows : List Row)
    → settled_rows (rules verb) (Some (codes "TENANT", words ++ word ∷ [])) rows ≡ added Tenant word (settled_rows (rules verb) (Some (codes "TENANT", words)) rows)
more_rows verb word words rows =
    tenant_rows verb (words ++ word ∷ []) rows
    ∙ (ap (λ values. with_values (codes "TENANT") AsWritten CommandLine values rows) (no_values (words ++ word ∷ []))
    ∙ (twice (codes "TENANT") AsWritten words (word ∷ []) rows refl
    ∙ (ap (λ values. added Tenant word (with_values (codes "TENANT") AsWritten CommandLine values rows)) (sym (no_values words))
    ∙ ap (added Tenant word) (sym (tenant_rows verb words rows)))))

more_settle : (verb : Verb) (word : Text) (words : List Text) (rows : List Row) (skip : ℕ) → nat_le 1 (length (words ++ word ∷ [])) ≡ true
    → nat_le (length (words ++ word ∷ [])) usize_max ≡ true
    → settle_passes (rules verb) false (record { rows = rows; pending = Some (codes "TENANT", words ++ word ∷ []); skip = skip }) ≡ true
more_settle verb word words rows skip some few =
    tenant_settles verb (words ++ word ∷ []) rows skip
    ∙ ap₂ ◌&&◌ some (ap₂ ◌&&◌ few (ap (values_pass tenant_built) (no_values (words ++ word ∷ [])) ∙ texts_pass (words ++ word ∷ [])))

keeps_tenant : (verb : Verb) (seen : Seen) (count skip : ℕ) (word : Text) (pending : Option (Text × List Text)) (rows : List Row)
    → Holds verb seen count (record { rows = rows; pending = pending; skip = skip }) → suc count ≤ usize_max
    → Holds verb (with_word seen Tenant word) (suc count) (met verb Tenant word (record { rows = rows; pending = pending; skip = skip }))
keeps_tenant verb seen count skip word None rows holds few = record {
  rows = λ other. ap (row_in (id_of other)) (tenant_rows verb (word ∷ []) rows) ∙ rows_with seen Tenant word rows holds.rows other;
  settles = tenant_settles verb (word ∷ []) rows skip;
  pending = omega arith;
}
keeps_tenant verb seen count skip word (Some pending) rows holds few = go (bytes_eq pending.0 (codes "TENANT")) refl
  where
    go : (among : Bool) → bytes_eq pending.0 (codes "TENANT") ≡ among
        → Holds verb (with_word seen Tenant word) (suc count) (met verb Tenant word (record { rows = rows; pending = Some pending; skip = skip }))
    go true is =
        let named : pending.0 ≡ codes "TENANT" = (bytes_eq-Decides pending.0 (codes "TENANT")).0 is in
        let longer : length (pending.1 ++ word ∷ []) ≡ length pending.1 + 1 = length-append pending.1 (word ∷ []) in
        let within : length pending.1 ≤ count = holds.pending in
        let some : nat_le 1 (length (pending.1 ++ word ∷ [])) ≡ true = le-leb 1 _ (omega arith) in
        let fits : nat_le (length (pending.1 ++ word ∷ [])) usize_max ≡ true = le-leb _ usize_max (omega arith) in
        let same : settled_rows (rules verb) (Some (pending.0, pending.1 ++ word ∷ [])) rows ≡ added Tenant word (settled_rows (rules verb) (Some (pending.0, pending.1)) rows) =
        subst (λ id. settled_rows (rules verb) (Some (id, pending.1 ++ word ∷ [])) rows ≡ added Tenant word (settled_rows (rules verb) (Some (id, pending.1)) rows)) (sym named) (more_rows verb word pending.1 rows)
        in
        rw is (record {
          rows = λ other. ap (row_in (id_of other)) same ∙ rows_with seen Tenant word (settled_rows (rules verb) (Some (pending.0, pending.1)) rows) holds.rows other;
          settles = subst (λ id. settle_passes (rules verb) false (record { rows = rows; pending = Some (id, pending.1 ++ word ∷ []); skip = skip }) ≡ true) (sym named) (more_settle verb word pending.1 rows skip some fits);
          pending = omega arith;
        })
    go false is = rw is (record {
      rows = λ other. ap (row_in (id_of other)) (tenant_rows verb (word ∷ []) (settled_rows (rules verb) (Some pending) rows))
          ∙ rows_with seen Tenant word (settled_rows (rules verb) (Some pending) rows) holds.rows other;
      settles = tenant_settles verb (word ∷ []) (settled_rows (rules verb) (Some pending) rows) skip;
      pending = omega arith;
    })

-- the rows so far, before an option that was not used
fresh_rows : (seen : Seen) (role : Role) (word : Text) (rows : List Row) → ((other : Role) → row_in (id_of other) rows ≡ row_of other (seen other)) → seen role ≡ []
    → ((other : Role) → row_in (id_of other) (with_values (id_of role) AsWritten CommandLine (word ∷ []) (without (id_of role) rows)) ≡ row_of other (with_word seen role word other))
    × (has_row (id_of role) rows ≡ false)
fresh_rows seen role word rows are none =
    let unused = unfound (id_of role) rows (are role ∙ ap (row_of role) none) in (
      λ other. ap (λ left. row_in (id_of other) (with_values (id_of role) AsWritten CommandLine (word ∷ []) left)) unused.0 ∙ rows_with seen role word rows are other,
      unused.1,
    )

-- the row of an option after its use
option_rows : (verb : Verb) (role : Role) (word : Text) (rows : List Row) → has_option verb role ≡ true
    → settled_rows (rules verb) (Some (id_of role, word ∷ [])) rows ≡ with_values (id_of role) AsWritten CommandLine (word ∷ []) (without (id_of role) rows)
option_rows Replays Tenant word rows has = cc
option_rows verb Tenant word rows has = cc
option_rows verb role word rows has = cc

-- its use passes
option_settles : (verb : Verb) (role : Role) (word : Text) (rows : List Row) (skip : ℕ) → has_option verb role ≡ true → has_row (id_of role) rows ≡ false → fits_option role word ≡ true
    → settle_passes (rules verb) false (record { rows = rows; pending = Some (id_of role, word ∷ []); skip = skip }) ≡ true
option_settles Replays Tenant word rows skip has fresh fits = cc
option_settles verb Tenant word rows skip has fresh fits = cc
option_settles verb role word rows skip has fresh fits = search (ap₂ ◌&&◌ (ap (λ b. not b || false) fresh) (ap (λ b. b && true) fits))

option_held : (verb : Verb) (seen : Seen) (count : ℕ) (role : Role) (word : Text) (held : Held) → Holds verb seen count held → has_option verb role ≡ true → seen role ≡ []
    → fits_option role word ≡ true → suc count ≤ usize_max
    → Holds verb (with_word seen role word) (suc count) (record (settled (rules verb) held) { pending = Some (id_of role, word ∷ []) })
option_held verb seen count role word held holds has none fits few =
    let rows = settled_rows (rules verb) held.pending held.rows in
    let fresh = fresh_rows seen role word rows holds.rows none in
    record {
      rows = λ other. ap (row_in (id_of other)) (option_rows verb role word rows has) ∙ fresh.0 other;
      settles = option_settles verb role word rows held.skip has fresh.1 fits;
      pending = omega arith;
    }

keeps : (verb : Verb) (seen : Seen) (count : ℕ) (role : Role) (word : Text) (held : Held) → has_role verb role ≡ true → Holds verb seen count held
    → FitsNow role (seen role) word → suc count ≤ usize_max → Holds verb (with_word seen role word) (suc count) (met verb role word held)
keeps verb seen count Tenant word held has holds fits few = keeps_tenant verb seen count held.skip word held.pending held.rows holds few
keeps verb seen count role word held has holds fits few = option_held verb seen count role word held holds has fits.0 fits.2 few

-- ---- the walk

-- the walk between two parts
abbrev at : Held → Bool → Walk
at held after_tenant = record {
  held = held;
  waiting = if after_tenant then positional else idle;
  position = 1;
  is_trailing = false;
  stopped = None;
}

-- the walk after an option, before its value
abbrev before_value : Verb → Role → Held → Walk
before_value verb role held = record {
  held = record (settled (rules verb) held) { pending = Some (id_of role, []) };
  waiting = option (id_of role);
  position = 1;
  is_trailing = false;
  stopped = None;
}

no_hyphen : (b : Bool) → not b ≡ true → b ≡ false
no_hyphen false e = refl
no_hyphen true e = sym e

no_dashes : (word : Text) → is_plain word ≡ true → bytes_eq word (45 ∷ 45 ∷ []) ≡ false
no_dashes [] plain = refl
no_dashes (byte ∷ bytes) plain = rw (no_hyphen _ plain) refl

not_long : (word : Text) → is_plain word ≡ true → long_of word ≡ None
not_long [] plain = refl
not_long (byte ∷ bytes) plain = rw (no_hyphen _ plain) refl

not_short : (word : Text) → is_plain word ≡ true → short_of word ≡ None
not_short [] plain = refl
not_short (byte ∷ bytes) plain = rw (no_hyphen _ plain) refl

plain_met : (verb : Verb) (waiting : Waiting) (word : Text) (held : Held) → is_plain word ≡ true
    → subcommand_or_other (rules verb) None waiting 1 word held ≡ plain_word (rules verb) waiting word held
plain_met verb waiting word held plain = rw (no_dashes word plain, not_long word plain, not_short word plain) refl

tenant_step : (verb : Verb) (after_tenant : Bool) (word : Text) (held : Held) → is_plain word ≡ true
    → walked (rules verb) [] (at held after_tenant) word ≡ at (met verb Tenant word held) true
unfolding walked
tenant_step Replays true word held plain = ap (λ step. after_step (rules Replays) word (at held true) step.0 step.1) (plain_met Replays positional word held plain)
tenant_step verb true word held plain = ap (λ step. after_step (rules verb) word (at held true) step.0 step.1) (plain_met verb positional word held plain)
tenant_step Replays false word held plain = ap (λ step. after_step (rules Replays) word (at held false) step.0 step.1) (plain_met Replays idle word held plain)
tenant_step verb false word held plain = ap (λ step. after_step (rules verb) word (at held false) step.0 step.1) (plain_met verb idle word held plain)

plain_passes : (verb : Verb) (waiting : Waiting) (word : Text) (held : Held) → is_plain word ≡ true → subcommand_met [] waiting word ≡ None
    → word_passes (shape verb) [] false waiting word held ≡ true
plain_passes verb waiting word held plain no_name = rw (no_name, no_dashes word plain, not_long word plain, not_short word plain) refl

-- a tenant may come
tenant_place : (verb : Verb) (held : Held) → settle_passes (rules verb) false held ≡ true → step_passes (shape verb) 1 held value ≡ true
tenant_place Replays held settles = or_right _ _ settles
tenant_place verb held settles = or_right _ _ settles

tenant_turn : (verb : Verb) (after_tenant : Bool) (word : Text) (held : Held) → is_plain word ≡ true → settle_passes (rules verb) false held ≡ true
    → turn_passes (shape verb) [] (at held after_tenant) word ≡ true
tenant_turn verb true word held plain settles =
    ap₂ ◌&&◌ (plain_passes verb positional word held plain refl)
    (ap (λ step. step_passes (shape verb) 1 step.0 step.1) (plain_met verb positional word held plain) ∙ tenant_place verb held settles)
tenant_turn verb false word held plain settles =
    ap₂ ◌&&◌ (plain_passes verb idle word held plain refl)
    (ap (λ step. step_passes (shape verb) 1 step.0 step.1) (plain_met verb idle word held plain) ∙ tenant_place verb held settles)

value_step : (verb : Verb) (role : Role) (word : Text) (held : Held) → has_option verb role ≡ true → is_plain word ≡ true
    → walked (rules verb) [] (before_value verb role held) word ≡ at (record (settled (rules verb) held) { pending = Some (id_of role, word ∷ []) }) false
unfolding walked
value_step Replays Tenant word held has plain = cc
value_step verb Tenant word held has plain = cc
value_step verb role word held has plain =
    first_of (search (ap (λ step. after_step (rules verb) word (before_value verb role held) step.0 step.1) (plain_met verb (option (id_of role)) word (before_value verb role held).held plain)), cc)

value_turn : (verb : Verb) (role : Role) (word : Text) (held : Held) → is_plain word ≡ true → turn_passes (shape verb) [] (before_value verb role held) word ≡ true
value_turn verb role word held plain =
    ap₂ ◌&&◌ (plain_passes verb (option (id_of role)) word (before_value verb role held).held plain refl)
    (ap (λ step. step_passes (shape verb) 1 step.0 step.1) (plain_met verb (option (id_of role)) word (before_value verb role held).held plain))

-- whether the words pass from here on, and where they lead
abbrev Same : Verb → Walk → List Text → Walk → List Text → Type 0
Same verb walk words later rest = (walk_passes (shape verb) [] walk words ≡ walk_passes (shape verb) [] later rest)
    × (fold (walked (rules verb) []) walk words ≡ fold (walked (rules verb) []) later rest)

one_more : (verb : Verb) (walk later : Walk) (word : Text) (words : List Text) → turn_passes (shape verb) [] walk word ≡ true → walked (rules verb) [] walk word ≡ later
    → Same verb walk (word ∷ words) later words
unfolding walk_passes
one_more verb walk later word words turns steps = (
  ap₂ ◌&&◌ turns (ap (λ next. walk_passes (shape verb) [] next words) steps),
  ap (λ next. fold (walked (rules verb) []) next words) steps,
)

-- the name of an option waits for its value
name_turn : (verb : Verb) (role : Role) (after_tenant : Bool) (held : Held) → has_option verb role ≡ true → settle_passes (rules verb) false held ≡ true
    → turn_passes (shape verb) [] (at held after_tenant) (option_of role) ≡ true
name_turn Replays Tenant after_tenant held has settles = cc
name_turn verb Tenant after_tenant held has settles = cc
name_turn verb role true held has settles = search (ap (λ b. b && true) settles)
name_turn verb role false held has settles = search (ap (λ b. b && true) settles)

name_step : (verb : Verb) (role : Role) (after_tenant : Bool) (held : Held) → has_option verb role ≡ true
    → walked (rules verb) [] (at held after_tenant) (option_of role) ≡ before_value verb role held
unfolding walked
name_step Replays Tenant after_tenant held has = cc
name_step verb Tenant after_tenant held has = cc
name_step verb role true held has = first_of (search refl, cc)
name_step verb role false held has = first_of (search refl, cc)

option_step : (verb : Verb) (after_tenant : Bool) (held : Held) (words : List Text) (role : Role) (word : Text) → has_option verb role ≡ true
    → settle_passes (rules verb) false held ≡ true → is_plain word ≡ true
    → Same verb (at held after_tenant) (option_of role ∷ word ∷ words) (at (record (settled (rules verb) held) { pending = Some (id_of role, word ∷ []) }) false) words
option_step verb after_tenant held words role word has settles plain =
    let first = one_more verb (at held after_tenant) (before_value verb role held) (option_of role) (word ∷ words) (name_turn verb role after_tenant held has settles)
    (name_step verb role after_tenant held has) in
    let second = one_more verb (before_value verb role held) (at (record (settled (rules verb) held) { pending = Some (id_of role, word ∷ []) }) false) word words
    (value_turn verb role word held plain) (value_step verb role word held has plain) in
    (first.0 ∙ second.0, first.1 ∙ second.1)

abbrev is_tenant : Role → Bool
is_tenant role = is_role Tenant role

part_step : (verb : Verb) (after_tenant : Bool) (held : Held) (words : List Text) (before : List Text) (role : Role) (word : Text) → has_role verb role ≡ true
    → settle_passes (rules verb) false held ≡ true → FitsNow role before word
    → Same verb (at held after_tenant) (spelled_with role word words) (at (met verb role word held) (is_tenant role)) words
part_step verb after_tenant held words before Tenant word has settles fits =
    one_more verb (at held after_tenant) (at (met verb Tenant word held) true) word words (tenant_turn verb after_tenant word held fits settles)
    (tenant_step verb after_tenant word held fits)
part_step verb after_tenant held words before role word has settles fits = option_step verb after_tenant held words role word has settles fits.1

-- ---- all the parts

abbrev all_seen : Seen → List Part → Seen
all_seen seen [] = seen
all_seen seen (part ∷ parts) = all_seen (with_word seen part.role part.word) parts

seen_is : (parts : List Part) (seen : Seen) (role : Role) → all_seen seen parts role ≡ seen role ++ words_for role parts
seen_is [] seen role = sym (append-nil (seen role))
seen_is (part ∷ parts) seen role = seen_is parts (with_word seen part.role part.word) role ∙ go (is_role role part.role)
  where
    go : (b : Bool) → (if b then seen role ++ part.word ∷ [] else seen role) ++ words_for role parts
        ≡ seen role ++ map (λ (p : Part). p.word) (cond b (part ∷ filter (λ (p : Part). is_role role p.role) parts) (filter (λ (p : Part). is_role role p.role) parts))
    go true = append_assoc (seen role) (part.word ∷ []) (words_for role parts)
    go false = refl

-- the number of an option is in its range, and stands once
abbrev pub FitsOnce : ℕ → List Text → Type 0
FitsOnce most [] = Unit {0}
FitsOnce most (word ∷ []) = (number : ℕ) × (number_up_to most word ≡ Some number)
FitsOnce most (word ∷ other ∷ words) = ⊥

-- the name of an option is plain, and stands once
abbrev pub PlainOnce : List Text → Type 0
PlainOnce [] = Unit {0}
PlainOnce (word ∷ []) = is_plain word ≡ true
PlainOnce (word ∷ other ∷ words) = ⊥

abbrev pub Fits : Role → List Text → Type 0
Fits Tenant words = list_all is_plain words ≡ true
Fits Export words = PlainOnce words
Fits role words = FitsOnce (most_of role) words

once : (most : ℕ) (before : List Text) (word : Text) (words : List Text) → FitsOnce most (before ++ word ∷ words)
    → (before ≡ []) × (is_plain word ≡ true) × (is_unsigned_in 1 most word ≡ true)
once most [] word [] fits =
    let is = kept (is_between 1 most) (number_of word) fits.0 fits.1 in
    let spelled = spells word fits.0 is.0 in
    (refl, spelled.plain, passes most word fits.0 spelled is.1)
once most [] word (other ∷ words) fits = absurd fits
once most (first ∷ []) word words fits = absurd fits
once most (first ∷ second ∷ before) word words fits = absurd fits

plain_once : (before : List Text) (word : Text) (words : List Text) → PlainOnce (before ++ word ∷ words) → (before ≡ []) × (is_plain word ≡ true)
plain_once [] word [] fits = (refl, fits)
plain_once [] word (other ∷ words) fits = absurd fits
plain_once (first ∷ []) word words fits = absurd fits
plain_once (first ∷ second ∷ before) word words fits = absurd fits

last_plain : (before : List Text) (word : Text) (words : List Text) → list_all is_plain (before ++ word ∷ words) ≡ true → is_plain word ≡ true
last_plain [] word words plain = (and_is_true _ _ plain).0
last_plain (first ∷ before) word words plain = last_plain before word words (and_is_true _ _ plain).1

fits_now : (role : Role) (before : List Text) (word : Text) (words : List Text) → Fits role (before ++ word ∷ words) → FitsNow role before word
fits_now Tenant before word words fits = last_plain before word words fits
fits_now Export before word words fits = let is = plain_once before word words fits in (is.0, is.1, refl)
fits_now role before word words fits = once (most_of role) before word words fits

first_word : (part : Part) (parts : List Part) → words_for part.role (part ∷ parts) ≡ part.word ∷ words_for part.role parts
first_word part parts = rw (is_itself part.role) refl

-- whether the command has the roles of all parts
abbrev pub have_roles : Verb → List Part → Bool
have_roles verb parts = list_all (λ part. has_role verb part.role) parts

-- where the words of the parts lead
record Leads (verb : Verb) (start : Held) (after_tenant : Bool) (seen : Seen) (count : ℕ) (parts : List Part) : Type 0 where
  passes : walk_passes (shape verb) [] (at start after_tenant) (spelled parts) ≡ true
  end : Held
  last : Bool
  walks : fold (walked (rules verb) []) (at start after_tenant) (spelled parts) ≡ at end last
  holds : Holds verb (all_seen seen parts) (count + length parts) end

leads : (verb : Verb) (parts : List Part) (start : Held) (after_tenant : Bool) (seen : Seen) (count : ℕ) → have_roles verb parts ≡ true → Holds verb seen count start
    → ((role : Role) → Fits role (seen role ++ words_for role parts)) → count + length parts ≤ usize_max → Leads verb start after_tenant seen count parts
unfolding walk_passes
leads verb [] start after_tenant seen count have holds fits few = record {
  passes = refl;
  end = start;
  last = after_tenant;
  walks = refl;
  holds = subst (λ n. Holds verb seen n start) (omega arith) holds;
}
leads verb (part ∷ parts) start after_tenant seen count have holds fits few =
    let has = and_is_true _ _ have in
    let now = fits_now part.role (seen part.role) part.word (words_for part.role parts)
    (subst (λ words. Fits part.role (seen part.role ++ words)) (first_word part parts) (fits part.role)) in
    let turn = part_step verb after_tenant start (spelled parts) (seen part.role) part.role part.word has.0 holds.settles now in
    let kept = keeps verb seen count part.role part.word start has.0 holds now (omega arith) in
    let later_fits : (role : Role) → Fits role (with_word seen part.role part.word role ++ words_for role parts) =
    λ role. subst (Fits role) (sym (seen_is (part ∷ parts) seen role) ∙ seen_is parts (with_word seen part.role part.word) role) (fits role) in
    let later = leads verb parts (met verb part.role part.word start) (is_tenant part.role) (with_word seen part.role part.word) (suc count) has.1 kept later_fits (omega arith) in
    record {
      passes = turn.0 ∙ later.passes;
      end = later.end;
      last = later.last;
      walks = turn.1 ∙ later.walks;
      holds = subst (λ n. Holds verb (all_seen seen (part ∷ parts)) n later.end) (omega arith) later.holds;
    }

abbrev nothing_seen : Seen
nothing_seen role = []

from_nothing : (verb : Verb) (parts : List Part) → have_roles verb parts ≡ true → ((role : Role) → Fits role (words_for role parts)) → length parts ≤ usize_max
    → Leads verb nothing_held false nothing_seen 0 parts
from_nothing verb parts have fits few =
    leads verb parts nothing_held false nothing_seen 0 have (record { rows = λ role. refl; settles = refl; pending = omega arith }) fits (omega arith)

-- ---- the end

abbrev is_nothing : List Text → Bool
is_nothing [] = true
is_nothing (first ∷ others) = false

with_no_default : (used : Bool) (id : Text) (how : Reading) (defaults : List Text) (rows : List Row) → is_nothing defaults ≡ true
    → (if used then rows else default_rows id how defaults rows) ≡ rows
with_no_default true id how defaults rows none = refl
with_no_default false id how [] rows none = refl
with_no_default false id how (first ∷ others) rows none = cc

unchanged : (rules : List Rule) (rows : List Row) → list_all (λ (rule : Rule). is_nothing rule.defaults) rules ≡ true → fold with_default rows rules ≡ rows
unchanged [] rows none = refl
unchanged (rule ∷ rules) rows none =
    let parts = and_is_true _ _ none in
    ap (λ left. fold with_default left rules) (with_no_default (has_row rule.id rows) rule.id (reading_by rule) rule.defaults rows parts.0) ∙ unchanged rules rows parts.1

-- no argument has a default

no_defaults : (verb : Verb) (rows : List Row) → fold with_default rows (rules verb) ≡ rows
no_defaults Replays rows = unchanged (rules Replays) rows refl
no_defaults verb rows = unchanged (rules verb) rows refl

-- the rows in the end
rows_end : (verb : Verb) (parts : List Part) (leads : Leads verb nothing_held false nothing_seen 0 parts) (role : Role)
    → row_in (id_of role) (finished (rules verb) leads.end) ≡ row_of role (words_for role parts)
rows_end verb parts leads role =
    ap (row_in (id_of role)) (no_defaults verb (settled_rows (rules verb) leads.end.pending leads.end.rows))
    ∙ (leads.holds.rows role ∙ ap (row_of role) (seen_is parts nothing_seen role))

abbrev ends_well : Verb → Walk → Bool
ends_well verb end = settle_passes (rules verb) false end.held
    && (list_all default_passes (rules verb) && is_valid (shape verb) (finished (rules verb) end.held) false)

given : (verb : Verb) (role : Role) (parts : List Part) (leads : Leads verb nothing_held false nothing_seen 0 parts) (word : Text) (words : List Text)
    → words_for role parts ≡ word ∷ words → is_given (id_of role) (finished (rules verb) leads.end) ≡ true
given verb role parts leads word words are =
    ap (λ row. Rattle.std.specs.Option.option_map_or (λ (r : Row). Rattle.clap.specs.Facts.explicit_source r.source) row false)
    (rows_end verb parts leads role ∙ ap (row_of role) are)

-- There is a word.
abbrev pub HasFirst : List Text → Type 0
HasFirst words = (first : Text) × (others : List Text) × (words ≡ first ∷ others)

-- What has to be there is there.
abbrev pub Needs : Verb → List Part → Type 0
Needs Replays parts = HasFirst (words_for Tenant parts)
Needs Serves parts = HasFirst (words_for Tenant parts) × ((port : Text) × (words_for Port parts ≡ port ∷ []))
Needs Loads parts = HasFirst (words_for Tenant parts)

valid : (verb : Verb) (parts : List Part) (leads : Leads verb nothing_held false nothing_seen 0 parts) → Needs verb parts
    → list_all default_passes (rules verb) && is_valid (shape verb) (finished (rules verb) leads.end) false ≡ true
valid Replays parts leads needs = ap (λ b. b && true) (given Replays Tenant parts leads needs.0 needs.1 needs.2)
valid Serves parts leads needs =
    ap₂ ◌&&◌ (given Serves Port parts leads needs.1.0 [] needs.1.1) (ap (λ b. b && true) (given Serves Tenant parts leads needs.0.0 needs.0.1 needs.0.2))
valid Loads parts leads needs = ap (λ b. b && true) (given Loads Tenant parts leads needs.0 needs.1 needs.2)

level : (verb : Verb) (parts : List Part) (leads : Leads verb nothing_held false nothing_seen 0 parts) → Needs verb parts
    → level_passes (shape verb) [] nothing_held (spelled parts) false ≡ true
level Replays parts leads needs = ap₂ ◌&&◌ leads.passes (ap (ends_well Replays) leads.walks ∙ ap₂ ◌&&◌ leads.holds.settles (valid Replays parts leads needs))
level verb parts leads needs = ap₂ ◌&&◌ leads.passes (ap (ends_well verb) leads.walks ∙ ap₂ ◌&&◌ leads.holds.settles (valid verb parts leads needs))

-- ---- the whole command line

-- the walk over the words of the whole command line stops at the command
stop_is : (verb : Verb) (words : List Text) → stop_after (built program_app).top.rules (names_of (built program_app)) (name_of verb ∷ words) ≡ Some (name_of verb, words)
unfolding walked
stop_is Replays words = ap (λ (w : Walk). w.stopped) (sym (walk_stopped (built program_app).top.rules (names_of (built program_app)) (walk_from nothing_held) (name_of Replays) [] words))
stop_is verb words = ap (λ (w : Walk). w.stopped) (sym (walk_stopped (built program_app).top.rules (names_of (built program_app)) (walk_from nothing_held) (name_of verb) [] words))

-- the command is found with the rows in which its walk ends
entered_is : (verb : Verb) (words : List Text) → entered (built program_app) (Some (name_of verb, words)) ≡ Some (name_of verb, finished (rules verb) (fold (walked (rules verb) []) (walk_from nothing_held) words).held)
entered_is Replays words = refl
entered_is verb words = refl

-- what is found
pub finds : (verb : Verb) (parts : List Part) → have_roles verb parts ≡ true → ((role : Role) → Fits role (words_for role parts)) → length parts ≤ usize_max
    → (rows : List Row) × (subcommand_of program_app (name_of verb ∷ spelled parts) ≡ Some (name_of verb, rows))
    × ((role : Role) → row_in (id_of role) rows ≡ row_of role (words_for role parts))
finds verb parts have fits few =
    let leads = from_nothing verb parts have fits few in (
      finished (rules verb) leads.end,
      ap (λ stop. entered (built program_app) stop) (stop_is verb (spelled parts))
          ∙ (entered_is verb (spelled parts) ∙ ap (λ (walk : Walk). Some (name_of verb, finished (rules verb) walk.held)) leads.walks),
      rows_end verb parts leads,
    )

-- after the command nothing is looked at
stopped_passes : (w : Walk) (name : Text) (seen words : List Text)
    → walk_passes (built program_app).top (names_of (built program_app)) (record w { stopped = Some (name, seen) }) words ≡ true
unfolding walk_passes walked
stopped_passes w name seen [] = refl
stopped_passes w name seen (word ∷ words) = stopped_passes w name (seen ++ word ∷ []) words

abbrev top_ends_well : Walk → Bool
top_ends_well end = settle_passes (built program_app).top.rules (built program_app).top.args_override_self end.held
    && (list_all default_passes (built program_app).top.rules && is_valid (built program_app).top (finished (built program_app).top.rules end.held) true)

top_level : (verb : Verb) (words : List Text) → level_passes (built program_app).top (names_of (built program_app)) nothing_held (name_of verb ∷ words) true ≡ true
unfolding walk_passes walked
top_level Replays words = ap₂ ◌&&◌ (stopped_passes (walk_from nothing_held) (name_of Replays) [] words)
    (ap top_ends_well (sym (walk_stopped (built program_app).top.rules (names_of (built program_app)) (walk_from nothing_held) (name_of Replays) [] words)))
top_level verb words = ap₂ ◌&&◌ (stopped_passes (walk_from nothing_held) (name_of verb) [] words)
    (ap top_ends_well (sym (walk_stopped (built program_app).top.rules (names_of (built program_app)) (walk_from nothing_held) (name_of verb) [] words)))

-- the words are taken
pub takes_parts : (verb : Verb) (parts : List Part) → Needs verb parts → have_roles verb parts ≡ true → ((role : Role) → Fits role (words_for role parts))
    → length parts ≤ usize_max → takes program_app (name_of verb ∷ spelled parts) ≡ true
takes_parts verb parts needs have fits few =
    ap (λ stop. entered_passes (built program_app) stop
    && level_passes (built program_app).top (names_of (built program_app)) nothing_held (name_of verb ∷ spelled parts) (is_some (entered (built program_app) stop)))
    (stop_is verb (spelled parts))
    ∙ entered_level verb (spelled parts) (level verb parts (from_nothing verb parts have fits few) needs) (top_level verb (spelled parts))
  where
    entered_level : (verb : Verb) (words : List Text) → level_passes (shape verb) [] nothing_held words false ≡ true
        → level_passes (built program_app).top (names_of (built program_app)) nothing_held (name_of verb ∷ words) true ≡ true
        → (entered_passes (built program_app) (Some (name_of verb, words))
        && level_passes (built program_app).top (names_of (built program_app)) nothing_held (name_of verb ∷ words) (is_some (entered (built program_app) (Some (name_of verb, words))))) ≡ true
    entered_level Replays words low top = ap₂ ◌&&◌ low top
    entered_level verb words low top = ap₂ ◌&&◌ low top
