-- Words that ask for a replay, a service or a load are spelled by their parts, those that ask for a check are `check`, and what is asked for is found.
use Rattle.std.proofs.Common.{◌≡◌, ◌∙◌, ◌⊎◌, inl, inr, ℕ, suc, ◌≤◌, true, false, Bool, ◌||◌, List, [], ◌∷◌, length, Option, Some, None, option_map, option_and_then, refl, sym, ap, ap₂, subst, codes, arith, IfSome, if◌then◌else◌}
use Rattle.std.specs.Prelude.{slice_get, unwrap_or}
use Rattle.std.specs.List.{list_all, list_any}
use Rattle.std.specs.Option.{option_map_or}
use Rattle.std.proofs.lemmas.Bool.{and_from, or_right}
use Rattle.std.proofs.lemmas.Slice.Eq.{bytes_eq-Decides}
use Rattle.clap.specs.Words.{App, HasMatchesOf, Row, all_of, first_of, is_simple, subcommand_of, subcommand_rows_of, takes}
use Rattle.clap.specs.Lexer.{usize_max}
use Rattle.clap.proofs.WalkLemmas.{both as and_is_true}
use Rattle.clap.proofs.OnLiterals.{clap_on_literals}
use Rattle.clap.specs.Walk.{row_text}
use Rattle.clap.specs.declared.parser.ArgMatches.{ArgMatches}
use Rattle.trace_types.specs.tenant.Limits.{Limits, are_limits}
use Rattle.trace_types.specs.text.Name.{Text, is_between, is_same}
use Rattle.trace_types.specs.text.Reading.{number_of}
use Rattle.command_line.specs.Demand.{AskedReplay, AskedService, Demand, ToReplay, ToServe, ToCheck, Role, Tenant, Events, Tasks, Messages, Cache, Export, Port, Workers, Sessions, Part, replay_asked_by, default_of, export_by, most_of, number_by, number_by_words, replay_asked_in, replay_options, replay_with, service_asked_by, service_asked_in, service_options, service_with, check_asked_in, load_asked_in, load_with, asked_in, is_plain, is_role, limits_by, limits_of, option_named, option_of, parts_after, with_part, words_for}
use Rattle.command_line.specs.Reading.{Has, amount_in, amount_spelled, limits_in, program_app, work_found, work_with}
use Rattle.command_line.proofs.Amounts.{is_amount}
use Rattle.command_line.proofs.CommandLine.{Fits, FitsOnce, HasFirst, Needs, PlainOnce, is_itself, same_role, Verb, Replays, Serves, Loads, finds, has_option, has_role, have_roles, id_of, name_of, options_of, row_of, simple, spelled, spelled_with, takes_parts}
use Rattle.command_line.proofs.Optional.{chosen, followed, if_some, kept, mapped, some_same, stays}
use Rattle.command_line.proofs.Rows.{row_in}

-- an option that is named is one of these
named : (options : List Role) (word : Text) (role : Role) → option_named options word ≡ Some role → (word ≡ option_of role) × (list_any (is_role role) options ≡ true)
named [] word role is = cc
named (one ∷ options) word role is =
    chosen (is_same word (option_of one)) (Some one) (option_named options word) role is
    (λ same e.
    let one_is = some_same e in (
      (bytes_eq-Decides word (option_of one)).0 same ∙ ap option_of one_is,
      ap (λ b. b || list_any (is_role role) options) (subst (λ r. is_role r one ≡ true) one_is (is_itself one)),
    ))
    (λ e. let rest = named options word role e in (rest.0, or_right _ _ rest.1))

no_tenant : (verb : Verb) (role : Role) → has_option verb role ≡ true → is_role Tenant role ≡ false
no_tenant Replays Tenant has = cc
no_tenant verb Tenant has = cc
no_tenant verb role has = refl

spelled_option : (role : Role) (word : Text) (words : List Text) → is_role Tenant role ≡ false → option_of role ∷ word ∷ words ≡ spelled_with role word words
spelled_option Tenant word words option = cc
spelled_option role word words option = refl

-- the words with the option before them
abbrev before : Option Role → List Text → List Text
before None words = words
before (Some role) words = option_of role ∷ words

abbrev IsOption : Verb → Option Role → Type 0
IsOption verb None = Unit {0}
IsOption verb (Some role) = has_option verb role ≡ true

-- what is known of the parts that words spell
record Spelled (verb : Verb) (words : List Text) (parts : List Part) : Type 0 where
  words_are : words ≡ spelled parts
  plain : list_all is_plain (words_for Tenant parts) ≡ true
  have : have_roles verb parts ≡ true

spelled_by : (verb : Verb) (option : Option Role) (words : List Text) (parts : List Part) → IsOption verb option → parts_after (options_of verb) option words ≡ Some parts
    → Spelled verb (before option words) parts
spelled_by verb None [] parts is e = subst (Spelled verb []) (some_same e) (record { words_are = refl; plain = refl; have = refl })
spelled_by verb None (word ∷ words) parts is e =
    chosen (is_plain word) (with_part Tenant word (parts_after (options_of verb) None words))
    (option_and_then (λ role. parts_after (options_of verb) (Some role) words) (option_named (options_of verb) word)) parts e
    (λ plain e.
    let more = mapped (λ rest. record { role = Tenant; word = word } ∷ rest) (parts_after (options_of verb) None words) parts e in
    let rest = spelled_by verb None words more.0 tt more.1 in
    subst (Spelled verb (word ∷ words)) more.2
    (record { words_are = ap (λ left. word ∷ left) rest.words_are; plain = and_from _ _ plain rest.plain; have = and_from true (have_roles verb more.0) refl rest.have }))
    (λ e.
    let role = followed (λ role. parts_after (options_of verb) (Some role) words) (option_named (options_of verb) word) parts e in
    let is = named (options_of verb) word role.0 role.1 in
    let rest = spelled_by verb (Some role.0) words parts is.1 role.2 in
    record { words_are = ap (λ first. first ∷ words) is.0 ∙ rest.words_are; plain = rest.plain; have = rest.have })
spelled_by verb (Some role) [] parts is e = cc
spelled_by verb (Some role) (word ∷ words) parts is e =
    let more = mapped (λ rest. record { role = role; word = word } ∷ rest) (parts_after (options_of verb) None words) parts e in
    let rest = spelled_by verb None words more.0 tt more.1 in
    let option = no_tenant verb role is in
    subst (Spelled verb (option_of role ∷ word ∷ words)) more.2 (record {
      words_are = ap (λ left. option_of role ∷ word ∷ left) rest.words_are ∙ spelled_option role word (spelled more.0) option;
      plain = rw option rest.plain;
      have = and_from _ _ (or_right _ _ is) rest.have;
    })

-- ---- the options

number_fits : (default : Option ℕ) (most : ℕ) (words : List Text) (number : ℕ) → number_by_words default most words ≡ Some number → FitsOnce most words
number_fits default most [] number e = tt
number_fits default most (word ∷ []) number e = (number, e)
number_fits default most (word ∷ other ∷ words) number e = cc

default_fits : (role : Role) → IfSome (default_of role) (λ number. is_between 1 (most_of role) number ≡ true)
default_fits Tenant = tt
default_fits Export = tt
default_fits Port = tt
default_fits role = refl

number_within : (default : Option ℕ) (most : ℕ) (words : List Text) (number : ℕ) → IfSome default (λ n. is_between 1 most n ≡ true) → number_by_words default most words ≡ Some number
    → is_between 1 most number ≡ true
number_within None most [] number fine e = cc
number_within (Some default) most [] number fine e = subst (λ n. is_between 1 most n ≡ true) (some_same e) fine
number_within default most (word ∷ []) number fine e = (kept (is_between 1 most) (number_of word) number e).1
number_within default most (word ∷ other ∷ words) number fine e = cc

-- the default of clap's model, by which it tells a port that was not given
abbrev amount_unused : Role → ℕ
amount_unused role = unwrap_or (default_of role) 0

amount_found : (role : Role) (parts : List Part) (number : ℕ) (rows : List Row) → row_in (id_of role) rows ≡ row_of role (words_for role parts) → number_by role parts ≡ Some number
    → amount_in (id_of role) (amount_unused role) rows ≡ Some number
amount_found role parts number rows row e =
    ap (λ found. option_map_or amount_spelled (option_and_then row_text found) (Some (amount_unused role))) row ∙ go (default_of role) (words_for role parts) e
  where
    go : (default : Option ℕ) (words : List Text) → number_by_words default (most_of role) words ≡ Some number
        → option_map_or amount_spelled (option_and_then row_text (row_of role words)) (Some (unwrap_or default 0)) ≡ Some number
    go None [] e = cc
    go (Some default) [] e = e
    go default (word ∷ []) e = is_amount word number (kept (is_between 1 (most_of role)) (number_of word) number e).0
    go default (word ∷ other ∷ words) e = cc

-- a number is found
number_is : (role : Role) (parts : List Part) (number : ℕ) (rows : List Row) → row_in (id_of role) rows ≡ row_of role (words_for role parts) → number_by role parts ≡ Some number
    → option_and_then (λ n. if is_between 1 (most_of role) n then Some n else None) (amount_in (id_of role) (amount_unused role) rows) ≡ Some number
number_is role parts number rows row e =
    stays (is_between 1 (most_of role)) (amount_in (id_of role) (amount_unused role) rows) number (amount_found role parts number rows row e)
    (number_within (default_of role) (most_of role) (words_for role parts) number (default_fits role) e)

port_word : (words : List Text) (port : ℕ) → number_by_words None 65535 words ≡ Some port → (word : Text) × (words ≡ word ∷ [])
port_word [] port e = cc
port_word (word ∷ []) port e = (word, refl)
port_word (word ∷ other ∷ words) port e = cc

-- the name of an export is plain, and stands once
export_fits : (words : List Text) (export : Option Text) → export_by words ≡ Some export → PlainOnce words
export_fits [] export e = tt
export_fits (word ∷ []) export e = (if_some (is_plain word) (Some word) export e).1
export_fits (word ∷ other ∷ words) export e = cc

-- and it is found
export_is : (words : List Text) (export : Option Text) (rows : List Row) → row_in (id_of Export) rows ≡ row_of Export words
    → export_by words ≡ Some export → first_of (id_of Export) rows ≡ export
export_is words export rows row e = ap (λ found. option_and_then (λ (r : Row). slice_get r.values 0) found) row ∙ go words e
  where
    go : (words : List Text) → export_by words ≡ Some export → option_and_then (λ (r : Row). slice_get r.values 0) (row_of Export words) ≡ export
    go [] e = some_same e
    go (word ∷ []) e = (if_some (is_plain word) (Some word) export e).0
    go (word ∷ other ∷ words) e = cc

three : (events tasks messages : Option ℕ) (limits : Limits) → limits_of events tasks messages ≡ Some limits
    → (events ≡ Some limits.events) × (tasks ≡ Some limits.tasks) × (messages ≡ Some limits.messages)
three (Some events) (Some tasks) (Some messages) limits e =
    let is = some_same e in (ap (λ (l : Limits). Some l.events) is, ap (λ (l : Limits). Some l.tasks) is, ap (λ (l : Limits). Some l.messages) is)
three events tasks messages limits e = cc

abbrev within : Limits → Bool
within limits = are_limits limits.events limits.tasks limits.messages

-- the limits that were found
pub amounts : (rows : List Row) (limits : Limits) → limits_in rows ≡ Some limits
    → (amount_in (codes "events") 4096 rows ≡ Some limits.events) × (amount_in (codes "tasks") 512 rows ≡ Some limits.tasks)
    × (amount_in (codes "messages") 2048 rows ≡ Some limits.messages) × (are_limits limits.events limits.tasks limits.messages ≡ true)
amounts rows limits e =
    let is = kept within (limits_of (amount_in (codes "events") 4096 rows) (amount_in (codes "tasks") 512 rows) (amount_in (codes "messages") 2048 rows)) limits e in
    let each = three (amount_in (codes "events") 4096 rows) (amount_in (codes "tasks") 512 rows) (amount_in (codes "messages") 2048 rows) limits is.0 in
    (each.0, each.1, each.2, is.1)

-- ---- what is asked for

-- how words ask for something by a command that takes tenants
pub record AsksBy (verb : Verb) (words : List Text) (parts : List Part) : Type 0 where
  pub words_are : words ≡ name_of verb ∷ spelled parts
  pub have : have_roles verb parts ≡ true
  pub needs : Needs verb parts
  pub fits : (role : Role) → Fits role (words_for role parts)

-- The rows have the words of the parts.
abbrev pub HasRows : List Part → List Row → Type 0
HasRows parts rows = (role : Role) → row_in (id_of role) rows ≡ row_of role (words_for role parts)

-- how words ask for this
abbrev pub Asks : List Text → Demand → Type 0
Asks words asked = ((words ≡ codes "check" ∷ []) × (asked ≡ ToCheck))
    ⊎ ((verb : Verb) × (parts : List Part) × AsksBy verb words parts × ((rows : List Row) → HasRows parts rows → Has (Some (name_of verb, rows)) asked))

asks_by : (verb : Verb) (first : Text) (words : List Text) (parts : List Part) → first ≡ name_of verb → Spelled verb words parts → Needs verb parts
    → ((role : Role) → Fits role (words_for role parts)) → AsksBy verb (first ∷ words) parts
asks_by verb first words parts is_first is needs fits =
    record { words_are = ap₂ (λ (a : Text) (b : List Text). a ∷ b) is_first is.words_are; have = is.have; needs = needs; fits = fits }

-- the words of an option that the command has not
no_words : (verb : Verb) (role : Role) (parts : List Part) → has_role verb role ≡ false → have_roles verb parts ≡ true → words_for role parts ≡ []
no_words verb role [] has have = refl
no_words verb role (part ∷ parts) has have = go (is_role role part.role) refl (no_words verb role parts has (and_is_true _ _ have).1)
  where
    go : (b : Bool) → is_role role part.role ≡ b → words_for role parts ≡ [] → words_for role (part ∷ parts) ≡ []
    go true is rest =
        let same : role ≡ part.role = same_role role part.role is in
        let no : true ≡ false = sym (and_is_true _ _ have).0 ∙ (ap (has_role verb) (sym same) ∙ has) in
        cc
    go false is rest = rw is rest

-- the limits fit, and are found
limits_fit : (parts : List Part) (limits : Limits) → limits_by parts ≡ Some limits
    → FitsOnce 16384 (words_for Events parts) × FitsOnce 2048 (words_for Tasks parts) × FitsOnce 16384 (words_for Messages parts)
limits_fit parts limits e =
    let each = three (number_by Events parts) (number_by Tasks parts) (number_by Messages parts) limits e in (
      number_fits (default_of Events) 16384 (words_for Events parts) limits.events each.0,
      number_fits (default_of Tasks) 2048 (words_for Tasks parts) limits.tasks each.1,
      number_fits (default_of Messages) 16384 (words_for Messages parts) limits.messages each.2,
    )

limits_are : (parts : List Part) (limits : Limits) (rows : List Row) → limits_by parts ≡ Some limits → HasRows parts rows → limits_in rows ≡ Some limits
limits_are parts limits rows e are =
    let each = three (number_by Events parts) (number_by Tasks parts) (number_by Messages parts) limits e in
    let found : limits_of (amount_in (codes "events") 4096 rows) (amount_in (codes "tasks") 512 rows) (amount_in (codes "messages") 2048 rows) ≡ Some limits =
    ap₂ (λ a b. limits_of a b (amount_in (codes "messages") 2048 rows)) (amount_found Events parts limits.events rows (are Events) each.0)
    (amount_found Tasks parts limits.tasks rows (are Tasks) each.1)
    ∙ ap (limits_of (Some limits.events) (Some limits.tasks)) (amount_found Messages parts limits.messages rows (are Messages) each.2)
    in
    stays within _ limits found (and_from _ _ (and_from _ _ (number_within (default_of Events) 16384 (words_for Events parts) limits.events refl each.0)
    (number_within (default_of Tasks) 2048 (words_for Tasks parts) limits.tasks refl each.1))
    (number_within (default_of Messages) 16384 (words_for Messages parts) limits.messages refl each.2))

tenants_are : (tenants asked : List Text) (rows : List Row) → HasFirst tenants → tenants ≡ asked → row_in (codes "TENANT") rows ≡ row_of Tenant tenants
    → all_of (codes "TENANT") rows ≡ Some asked
tenants_are tenants asked rows first same row =
    ap (λ found. option_map (λ (r : Row). r.values) found) (row ∙ ap (row_of Tenant) first.2) ∙ ap Some (sym first.2 ∙ same)

-- ---- a replay

record IsReplay (tenants : List Text) (limits : Option Limits) (cache : Option ℕ) (export : Option (Option Text)) (asked : AskedReplay) : Type 0 where
  first : HasFirst tenants
  tenants_are : tenants ≡ asked.tenants
  limits_are : limits ≡ Some asked.limits
  cache_is : cache ≡ Some asked.cache
  export_is : export ≡ Some asked.export

is_replay : (tenants : List Text) (limits : Option Limits) (cache : Option ℕ) (export : Option (Option Text)) (asked : AskedReplay)
    → replay_with tenants limits cache export ≡ Some asked → IsReplay tenants limits cache export asked
is_replay (first ∷ others) (Some limits) (Some cache) (Some export) asked e =
    let is = some_same e in
    record {
      first = (first, others, refl);
      tenants_are = ap (λ (a : AskedReplay). a.tenants) is;
      limits_are = ap (λ (a : AskedReplay). Some a.limits) is;
      cache_is = ap (λ (a : AskedReplay). Some a.cache) is;
      export_is = ap (λ (a : AskedReplay). Some a.export) is;
    }
is_replay tenants limits cache export asked e = cc

abbrev ReplayBy : List Part → AskedReplay → Type 0
ReplayBy parts asked = IsReplay (words_for Tenant parts) (limits_by parts) (number_by Cache parts) (export_by (words_for Export parts)) asked

fits_replay : (words : List Text) (parts : List Part) (asked : AskedReplay) → Spelled Replays words parts → ReplayBy parts asked → (role : Role) → Fits role (words_for role parts)
fits_replay words parts asked is by Tenant = is.plain
fits_replay words parts asked is by Events = (limits_fit parts asked.limits by.limits_are).0
fits_replay words parts asked is by Tasks = (limits_fit parts asked.limits by.limits_are).1
fits_replay words parts asked is by Messages = (limits_fit parts asked.limits by.limits_are).2
fits_replay words parts asked is by Cache = number_fits (default_of Cache) 65536 (words_for Cache parts) asked.cache by.cache_is
fits_replay words parts asked is by Export = export_fits (words_for Export parts) asked.export by.export_is
fits_replay words parts asked is by role = subst (Fits role) (sym (no_words Replays role parts refl is.have)) tt

has_replay : (parts : List Part) (asked : AskedReplay) → ReplayBy parts asked → (rows : List Row) → HasRows parts rows → Has (Some (codes "replay", rows)) (ToReplay asked)
has_replay parts asked by rows are =
    let export = export_is (words_for Export parts) asked.export rows (are Export) by.export_is in (
      ap work_with export,
      tenants_are (words_for Tenant parts) asked.tenants rows by.first by.tenants_are (are Tenant),
      limits_are parts asked.limits rows by.limits_are are,
      number_is Cache parts asked.cache rows (are Cache) by.cache_is,
      export,
    )

replay_asks : (first : Text) (words : List Text) (asked : AskedReplay) → first ≡ codes "replay" → replay_asked_in words ≡ Some asked → Asks (first ∷ words) (ToReplay asked)
replay_asks first words asked is_first e =
    let parts = followed replay_asked_by (parts_after replay_options None words) asked e in
    let is = spelled_by Replays None words parts.0 tt parts.1 in
    let by = is_replay (words_for Tenant parts.0) (limits_by parts.0) (number_by Cache parts.0) (export_by (words_for Export parts.0)) asked parts.2 in
    inr (Replays, parts.0, asks_by Replays first words parts.0 is_first is by.first (fits_replay words parts.0 asked is by), has_replay parts.0 asked by)

-- ---- a service

record IsService (tenants : List Text) (port workers sessions : Option ℕ) (limits : Option Limits) (cache : Option ℕ) (asked : AskedService) : Type 0 where
  first : HasFirst tenants
  tenants_are : tenants ≡ asked.tenants
  port_is : port ≡ Some asked.port
  workers_are : workers ≡ Some asked.workers
  sessions_are : sessions ≡ Some asked.sessions
  limits_are : limits ≡ Some asked.limits
  cache_is : cache ≡ Some asked.cache

is_service : (tenants : List Text) (port workers sessions : Option ℕ) (limits : Option Limits) (cache : Option ℕ) (asked : AskedService)
    → service_with tenants port workers sessions limits cache ≡ Some asked → IsService tenants port workers sessions limits cache asked
is_service (first ∷ others) (Some port) (Some workers) (Some sessions) (Some limits) (Some cache) asked e =
    let is = some_same e in
    record {
      first = (first, others, refl);
      tenants_are = ap (λ (a : AskedService). a.tenants) is;
      port_is = ap (λ (a : AskedService). Some a.port) is;
      workers_are = ap (λ (a : AskedService). Some a.workers) is;
      sessions_are = ap (λ (a : AskedService). Some a.sessions) is;
      limits_are = ap (λ (a : AskedService). Some a.limits) is;
      cache_is = ap (λ (a : AskedService). Some a.cache) is;
    }
is_service tenants port workers sessions limits cache asked e = cc

abbrev ServiceBy : List Part → AskedService → Type 0
ServiceBy parts asked = IsService (words_for Tenant parts) (number_by Port parts) (number_by Workers parts) (number_by Sessions parts) (limits_by parts) (number_by Cache parts) asked

fits_service : (words : List Text) (parts : List Part) (asked : AskedService) → Spelled Serves words parts → ServiceBy parts asked → (role : Role) → Fits role (words_for role parts)
fits_service words parts asked is by Tenant = is.plain
fits_service words parts asked is by Events = (limits_fit parts asked.limits by.limits_are).0
fits_service words parts asked is by Tasks = (limits_fit parts asked.limits by.limits_are).1
fits_service words parts asked is by Messages = (limits_fit parts asked.limits by.limits_are).2
fits_service words parts asked is by Cache = number_fits (default_of Cache) 65536 (words_for Cache parts) asked.cache by.cache_is
fits_service words parts asked is by Export = subst PlainOnce (sym (no_words Serves Export parts refl is.have)) tt
fits_service words parts asked is by Port = number_fits (default_of Port) 65535 (words_for Port parts) asked.port by.port_is
fits_service words parts asked is by Workers = number_fits (default_of Workers) 32 (words_for Workers parts) asked.workers by.workers_are
fits_service words parts asked is by Sessions = number_fits (default_of Sessions) 1048576 (words_for Sessions parts) asked.sessions by.sessions_are

has_service : (parts : List Part) (asked : AskedService) → ServiceBy parts asked → (rows : List Row) → HasRows parts rows → Has (Some (codes "serve", rows)) (ToServe asked)
has_service parts asked by rows are = (
  refl,
  tenants_are (words_for Tenant parts) asked.tenants rows by.first by.tenants_are (are Tenant),
  limits_are parts asked.limits rows by.limits_are are,
  number_is Cache parts asked.cache rows (are Cache) by.cache_is,
  number_is Port parts asked.port rows (are Port) by.port_is,
  number_is Workers parts asked.workers rows (are Workers) by.workers_are,
  number_is Sessions parts asked.sessions rows (are Sessions) by.sessions_are,
)

service_asks : (first : Text) (words : List Text) (asked : AskedService) → first ≡ codes "serve" → service_asked_in words ≡ Some asked → Asks (first ∷ words) (ToServe asked)
service_asks first words asked is_first e =
    let parts = followed service_asked_by (parts_after service_options None words) asked e in
    let is = spelled_by Serves None words parts.0 tt parts.1 in
    let by = is_service (words_for Tenant parts.0) (number_by Port parts.0) (number_by Workers parts.0) (number_by Sessions parts.0) (limits_by parts.0)
    (number_by Cache parts.0) asked parts.2 in
    let needs : Needs Serves parts.0 = (by.first, port_word (words_for Port parts.0) asked.port by.port_is) in
    inr (Serves, parts.0, asks_by Serves first words parts.0 is_first is needs (fits_service words parts.0 asked is by), has_service parts.0 asked by)

-- ---- a load and a check

fits_load : (words : List Text) (parts : List Part) → Spelled Loads words parts → (role : Role) → Fits role (words_for role parts)
fits_load words parts is Tenant = is.plain
fits_load words parts is role = subst (Fits role) (sym (no_words Loads role parts refl is.have)) tt

load_asks : (first : Text) (words : List Text) (asked : Demand) → first ≡ codes "load" → load_asked_in words ≡ Some asked → Asks (first ∷ words) asked
load_asks first words asked is_first e =
    let parts = followed (λ parts. load_with (words_for Tenant parts)) (parts_after [] None words) asked e in
    let is = spelled_by Loads None words parts.0 tt parts.1 in
    by_tenants parts.0 is (words_for Tenant parts.0) refl parts.2
  where
    by_tenants : (parts : List Part) → Spelled Loads words parts → (tenants : List Text) → words_for Tenant parts ≡ tenants → load_with tenants ≡ Some asked → Asks (first ∷ words) asked
    by_tenants parts is (tenant ∷ []) are e =
        subst (Asks (first ∷ words)) (some_same e) (inr (
          Loads,
          parts,
          asks_by Loads first words parts is_first is (tenant, [], are) (fits_load words parts is),
          λ rows rows_are. (
            refl,
            tenants_are (words_for Tenant parts) (tenant ∷ []) rows (tenant, [], are) are (rows_are Tenant),
          ),
        ))
    by_tenants parts is [] are e = cc
    by_tenants parts is (tenant ∷ other ∷ tenants) are e = cc

check_asks : (first : Text) (words : List Text) (asked : Demand) → first ≡ codes "check" → check_asked_in words ≡ Some asked → Asks (first ∷ words) asked
check_asks first [] asked is_first e = inl (ap (λ word. word ∷ []) is_first, sym (some_same e))
check_asks first (word ∷ words) asked is_first e = cc

asks_for : (first : Text) (words : List Text) (asked : Demand) → asked_in (first ∷ words) ≡ Some asked → Asks (first ∷ words) asked
asks_for first words asked e =
    chosen (is_same first (codes "replay")) (option_map ToReplay (replay_asked_in words)) _ asked e
    (λ same e.
    let replay = mapped ToReplay (replay_asked_in words) asked e in
    subst (Asks (first ∷ words)) replay.2 (replay_asks first words replay.0 ((bytes_eq-Decides first (codes "replay")).0 same) replay.1))
    (λ e. chosen (is_same first (codes "serve")) (option_map ToServe (service_asked_in words)) _ asked e
    (λ same e.
    let service = mapped ToServe (service_asked_in words) asked e in
    subst (Asks (first ∷ words)) service.2 (service_asks first words service.0 ((bytes_eq-Decides first (codes "serve")).0 same) service.1))
    (λ e. chosen (is_same first (codes "check")) (check_asked_in words) _ asked e
    (λ same e. check_asks first words asked ((bytes_eq-Decides first (codes "check")).0 same) e)
    (λ e. chosen (is_same first (codes "load")) (load_asked_in words) None asked e
    (λ same e. load_asks first words asked ((bytes_eq-Decides first (codes "load")).0 same) e)
    (λ e. cc))))

-- words that ask for something
pub asks : (words : List Text) (P : Demand → Type 0) → ((asked : Demand) → Asks words asked → P asked) → IfSome (asked_in words) P
asks [] P holds = tt
asks (first ∷ words) P holds = go (asked_in (first ∷ words)) refl
  where
    go : (o : Option Demand) → asked_in (first ∷ words) ≡ o → IfSome o P
    go None is = tt
    go (Some asked) is = holds asked (asks_for first words asked is)

-- ---- what is found

-- a part has a word at least
few_parts : (parts : List Part) → length parts ≤ length (spelled parts)
few_parts [] = omega arith
few_parts (part ∷ parts) = go part.role (few_parts parts)
  where
    go : (role : Role) → length parts ≤ length (spelled parts) → suc (length parts) ≤ length (spelled_with role part.word (spelled parts))
    go Tenant rest = omega arith
    go role rest = omega arith

few_of : (words : List Text) (name : Text) (parts : List Part) → words ≡ name ∷ spelled parts → length words ≤ usize_max → length parts ≤ usize_max
few_of words name parts words_are bound =
    let longer = few_parts parts in
    let length_is : length words ≡ suc (length (spelled parts)) = ap length words_are in
    omega arith

found_check : Has (subcommand_of program_app (codes "check" ∷ [])) ToCheck
unfolding clap_on_literals
found_check = refl

-- what is asked for is found
found : (words : List Text) (asked : Demand) → Asks words asked → length words ≤ usize_max → Has (subcommand_of program_app words) asked
found words asked (inl check) bound = subst (Has (subcommand_of program_app words)) (sym check.1) (ap (λ ws. work_found (subcommand_of program_app ws)) check.0 ∙ found_check)
found words asked (inr (verb, parts, by, has)) bound =
    let is = finds verb parts by.have by.fits (few_of words (name_of verb) parts by.words_are bound) in
    subst (λ found. Has found asked) (sym (ap (subcommand_of program_app) by.words_are ∙ is.1)) (has is.0 is.2)

-- what a parse found is what the model finds
pub found_is : (app : App) (words : List Text) (matches : ArgMatches) → app ≡ program_app → HasMatchesOf app words matches
    → subcommand_rows_of matches ≡ subcommand_of program_app words
found_is app words matches app_is has = (has (ap is_simple app_is ∙ simple)).1 ∙ ap (λ a. subcommand_of a words) app_is

-- the matches of a parse have what is asked for
pub has_asked : (app : App) (words : List Text) (matches : ArgMatches) (asked : Demand) → app ≡ program_app → Asks words asked → length words ≤ usize_max
    → HasMatchesOf app words matches → Has (subcommand_rows_of matches) asked
has_asked app words matches asked app_is asks bound has =
    subst (λ rows. Has rows asked) (sym (found_is app words matches app_is has)) (found words asked asks bound)

takes_check : takes program_app (codes "check" ∷ []) ≡ true
unfolding clap_on_literals
takes_check = refl

-- and the words are taken
pub takes_asked : (app : App) (words : List Text) (asked : Demand) → app ≡ program_app → Asks words asked → length words ≤ usize_max → takes app words ≡ true
takes_asked app words asked app_is (inl check) bound = ap₂ takes app_is check.0 ∙ takes_check
takes_asked app words asked app_is (inr (verb, parts, by, has)) bound =
    ap₂ takes app_is by.words_are ∙ takes_parts verb parts by.needs by.have by.fits (few_of words (name_of verb) parts by.words_are bound)
