-- The command line as it is built, and what is read of it.
use Rattle.std.specs.Prelude.{◌≡◌, ℕ, Bool, true, false, IsTrue, List, Option, Some, None, IfSome, Result, Ok, Err, ◌⊎◌, [], codes, ◌∷◌, option_map, option_and_then, if◌then◌else◌, map, string_bytes}
use Rattle.std.specs.Option.{option_map_or}
use Rattle.std.specs.Str.Parse.{digits_value, without_leading_plus}
use Rattle.clap.specs.Words.{App, Row, Rule, Text, all_of, first_of, one_of, new_app, new_rule, subcommand_of, with_rule, with_subcommand}
use Rattle.clap.specs.Faults.{fault_of}
use Rattle.clap.specs.Kinds.{IsAmong}
use Rattle.clap.specs.ValueTests.{is_unsigned_in}
use Rattle.clap.specs.declared.error.kind.ErrorKind.{ErrorKind}
use Rattle.clap.specs.declared.error.kind.ErrorKind.TheVariants.{DisplayHelp, DisplayVersion}
use Rattle.clap.specs.declared.builder.ArgAction.TheVariants.{Append, Set}
use Rattle.clap.specs.declared.builder.value_parser.ValueParser.TheVariants as parser
use Rattle.trace_types.specs.tenant.Limits.{Limits, are_limits, default_limits}
use Rattle.trace_types.specs.text.Name.{is_between, is_same}
use Rattle.command_line.specs.Demand.{AskedReplay as Wanted, AskedService, Demand, ToReplay, ToServe, ToCheck, ToLoad, asked_in, limits_of}
use Rattle.command_line.specs.declared.demand.Asked.{Asked}
use Rattle.command_line.specs.declared.demand.Asked.TheVariants.{Replay, Serve, Check, Load, Show}
use Rattle.command_line.specs.declared.demand.Replay.{Replay as Replays}
use Rattle.command_line.specs.declared.demand.Serve.{Serve as Serves}
use Rattle.command_line.specs.declared.parse.Refusal.{Refusal}
use Rattle.command_line.specs.declared.parse.Refusal.TheVariants.{Words, Memory}

-- the argument for tenants: one or more
abbrev pub tenant_rule : Rule
tenant_rule = record (new_rule (codes "TENANT")) {
  action = Some Append;
  range = Some (record { start_inclusive = 1; end_inclusive = 18446744073709551615 });
  required = true;
}

-- the option of this name, whose number is one from 1 to this most
abbrev pub limit_rule : Text → ℕ → Rule
limit_rule name most = record (new_rule name) {
  long = Some name;
  action = Some Set;
  value_names = 1;
  parser = Some (parser.Unsigned 1 most);
}

-- the option for the port, which has to be used
abbrev pub port_rule : Rule
port_rule = record (limit_rule (codes "port") 65535) { required = true }

-- the option for the tenant to be exported
abbrev pub export_rule : Rule
export_rule = record (new_rule (codes "export")) { long = Some (codes "export"); action = Some Set; value_names = 1 }

abbrev pub replay_app : App
replay_app =
    with_rule (with_rule (with_rule (with_rule (with_rule (with_rule (new_app (codes "replay")) (limit_rule (codes "events") 16384))
    (limit_rule (codes "tasks") 2048)) (limit_rule (codes "messages") 16384)) (limit_rule (codes "cache") 65536)) export_rule) tenant_rule

abbrev pub serve_app : App
serve_app =
    with_rule (with_rule (with_rule (with_rule (with_rule (with_rule (with_rule (with_rule (new_app (codes "serve")) port_rule)
    (limit_rule (codes "workers") 32)) (limit_rule (codes "sessions") 1048576)) (limit_rule (codes "events") 16384))
    (limit_rule (codes "tasks") 2048)) (limit_rule (codes "messages") 16384)) (limit_rule (codes "cache") 65536)) tenant_rule

abbrev pub check_app : App
check_app = new_app (codes "check")

abbrev pub load_app : App
load_app = with_rule (new_app (codes "load")) tenant_rule

abbrev pub bare_app : App
bare_app = record (new_app (codes "itc_trace")) {
  top = record (new_app (codes "itc_trace")).top { has_version = true; no_binary_name = true; subcommand_required = true };
}

-- the whole command line
abbrev pub program_app : App
program_app = with_subcommand (with_subcommand (with_subcommand (with_subcommand bare_app replay_app.top) serve_app.top) check_app.top) load_app.top

-- why the command line does not take the words: the kinds of fault that may come, and none if it takes them
abbrev pub kinds_of : List (List ℕ) → List ErrorKind
kinds_of words = fault_of program_app words

-- what a command line that is taken asks for
pub data Work : Type 0 where
  Replaying : Work
  Exporting : Work
  Serving : Work
  Checking : Work
  Loading : Work

-- the tenant to be exported, if any, among what was found of a subcommand
abbrev pub export_found : Option (Text × List Row) → Option Text
export_found = option_and_then (λ found. first_of (codes "export") found.1)

-- the work of a replay, by the tenant to be exported, if any
abbrev pub work_with : Option Text → Work
work_with None = Replaying
work_with (Some name) = Exporting

-- whether what was found of a subcommand is of the one of this name
abbrev pub is_found : Text → Option (Text × List Row) → Bool
is_found name None = false
is_found name (Some found) = is_same found.0 name

-- the work by what was found of a subcommand
abbrev pub work_found : Option (Text × List Row) → Work
work_found found =
    if is_found (codes "check") found then Checking
    else if is_found (codes "load") found then Loading
    else if is_found (codes "serve") found then Serving
    else work_with (export_found found)

-- what clap's model finds of a subcommand among the words
abbrev pub found_in : List (List ℕ) → Option (Text × List Row)
found_in words = subcommand_of program_app words

-- the work that the words name, if the command line takes them
abbrev pub work_of : List Text → Work
work_of words = work_found (found_in words)

-- A fault of this kind is no mistake: help or the version was asked for.
abbrev pub IsShown : ErrorKind → Type 0
IsShown kind = (kind ≡ DisplayHelp) ⊎ (kind ≡ DisplayVersion)

-- Help or the version may be asked for.
abbrev pub AsksForHelp : List ErrorKind → Type 0
AsksForHelp kinds = (kind : ErrorKind) × IsAmong kind kinds × IsShown kind

-- The command line may refuse the words, or takes them.
abbrev pub MayBeRefused : List ErrorKind → Type 0
MayBeRefused kinds = (kinds ≡ []) ⊎ ((kind : ErrorKind) × IsAmong kind kinds × (IsShown kind → ⊥))

-- the work that is asked for
abbrev pub work_asked : Demand → Work
work_asked (ToReplay asked) = work_with asked.export
work_asked (ToServe asked) = Serving
work_asked ToCheck = Checking
work_asked (ToLoad tenant) = Loading

-- what is made of a fault of this kind
abbrev pub IsToldOf : ErrorKind → Result Asked Refusal → Type 0
IsToldOf kind (Ok (Replay replay)) = ⊥
IsToldOf kind (Ok (Serve service)) = ⊥
IsToldOf kind (Ok Check) = ⊥
IsToldOf kind (Ok (Load tenant)) = ⊥
IsToldOf kind (Ok (Show text)) = IsShown kind
IsToldOf kind (Err (Words text)) = IsShown kind → ⊥
IsToldOf kind (Err Memory) = Unit {0}

-- what is made of words for which these kinds of fault may come, and which name this work
abbrev pub IsAnswer : List ErrorKind → Work → Result Asked Refusal → Type 0
IsAnswer kinds work (Ok (Replay replay)) = (kinds ≡ []) × (work ≡ work_with (option_map string_bytes replay.export))
IsAnswer kinds work (Ok (Serve service)) = (kinds ≡ []) × (work ≡ Serving)
IsAnswer kinds work (Ok Check) = (kinds ≡ []) × (work ≡ Checking)
IsAnswer kinds work (Ok (Load tenant)) = (kinds ≡ []) × (work ≡ Loading)
IsAnswer kinds work (Ok (Show text)) = AsksForHelp kinds
IsAnswer kinds work (Err (Words text)) = MayBeRefused kinds
IsAnswer kinds work (Err Memory) = Unit {0}

-- the tenants among what was found of a subcommand
abbrev pub tenants_found : Option (Text × List Row) → Option (List Text)
tenants_found = option_and_then (λ found. all_of (codes "TENANT") found.1)

-- What was found has these tenants, if it has any.
abbrev pub FindsTenants : Option (Text × List Row) → List Text → Type 0
FindsTenants found tenants = (names : List Text) → tenants_found found ≡ Some names → tenants ≡ names

-- the number that the word of an option spells, as a number below 2^64 is read: digits, with a plus in front or none
abbrev pub amount_spelled : Text → Option ℕ
amount_spelled word =
    if is_unsigned_in 0 18446744073709551615 word then Some (digits_value 10 (without_leading_plus word)) else None

-- the number of the option of this name, and this one by default
abbrev pub amount_in : Text → ℕ → List Row → Option ℕ
amount_in name default rows = option_map_or amount_spelled (one_of name rows) (Some default)

-- the limits among what was found, if they are in their ranges
abbrev pub limits_in : List Row → Option Limits
limits_in rows = option_and_then (λ limits. if are_limits limits.events limits.tasks limits.messages then Some limits else None)
    (limits_of (amount_in (codes "events") default_limits.events rows) (amount_in (codes "tasks") default_limits.tasks rows)
    (amount_in (codes "messages") default_limits.messages rows))

-- the limits among what was found of a subcommand
abbrev pub limits_found : Option (Text × List Row) → Option Limits
limits_found = option_and_then (λ found. limits_in found.1)

-- What was found has these limits, if it has any.
abbrev pub FindsLimits : Option (Text × List Row) → Option Limits → Type 0
FindsLimits found result = (limits : Limits) → limits_found found ≡ Some limits → result ≡ Some limits

-- the number of the option of this name among what was found of a subcommand, and this one by default, if it is one from
-- 1 to this most
abbrev pub number_found : Text → ℕ → ℕ → Option (Text × List Row) → Option ℕ
number_found name default most = option_and_then (λ found. option_and_then (λ number. if is_between 1 most number then Some number else None)
    (amount_in name default found.1))

-- how many comparisons are to be remembered, among what was found of a subcommand
abbrev pub cache_found : Option (Text × List Row) → Option ℕ
cache_found = number_found (codes "cache") 1024 65536

-- What was found is what is asked for.
abbrev pub Has : Option (Text × List Row) → Demand → Type 0
Has found (ToReplay asked) = (work_found found ≡ work_with asked.export) × (tenants_found found ≡ Some asked.tenants)
    × (limits_found found ≡ Some asked.limits) × (cache_found found ≡ Some asked.cache) × (export_found found ≡ asked.export)
Has found (ToServe asked) = (work_found found ≡ Serving) × (tenants_found found ≡ Some asked.tenants)
    × (limits_found found ≡ Some asked.limits) × (cache_found found ≡ Some asked.cache)
    × (number_found (codes "port") 0 65535 found ≡ Some asked.port)
    × (number_found (codes "workers") 4 32 found ≡ Some asked.workers)
    × (number_found (codes "sessions") 1048576 1048576 found ≡ Some asked.sessions)
Has found ToCheck = work_found found ≡ Checking
Has found (ToLoad tenant) = (work_found found ≡ Loading) × (tenants_found found ≡ Some (tenant ∷ []))

-- what a replay that was read is asked for
abbrev pub wanted_of : Replays → Wanted
wanted_of replay = record {
  limits = replay.limits;
  cache = replay.cache;
  tenants = map string_bytes replay.tenants.items;
  export = option_map string_bytes replay.export;
}

-- what a service that was read is asked for
abbrev pub service_of : Serves → AskedService
service_of service = record {
  port = service.port;
  workers = service.workers;
  sessions = service.sessions;
  limits = service.limits;
  cache = service.cache;
  tenants = map string_bytes service.tenants.items;
}

-- What is asked for was read, if there was memory.
abbrev pub ReadsWords : Demand → Result Asked Refusal → Type 0
ReadsWords asked (Ok (Replay replay)) = asked ≡ ToReplay (wanted_of replay)
ReadsWords asked (Ok (Serve service)) = asked ≡ ToServe (service_of service)
ReadsWords asked (Ok Check) = asked ≡ ToCheck
ReadsWords asked (Ok (Load tenant)) = asked ≡ ToLoad (string_bytes tenant)
ReadsWords asked (Ok (Show text)) = ⊥
ReadsWords asked (Err (Words text)) = ⊥
ReadsWords asked (Err Memory) = Unit {0}

-- what is asked for, if it is not that a text is shown
abbrev pub demand_of : Asked → Option Demand
demand_of (Replay replay) = Some (ToReplay (wanted_of replay))
demand_of (Serve service) = Some (ToServe (service_of service))
demand_of Check = Some ToCheck
demand_of (Load tenant) = Some (ToLoad (string_bytes tenant))
demand_of (Show text) = None

-- If what was found has a number for the option of this name, from 1 to this most, it is this one.
abbrev pub FindsNumber : Text → ℕ → ℕ → Option (Text × List Row) → ℕ → Type 0
FindsNumber name default most found number = (other : ℕ) → number_found name default most found ≡ Some other → number ≡ other

-- What is asked for is what was found: each tenant, limit, number and name.
abbrev pub Agrees : Option (Text × List Row) → Demand → Type 0
Agrees found (ToReplay asked) = FindsTenants found asked.tenants × FindsLimits found (Some asked.limits)
    × FindsNumber (codes "cache") 1024 65536 found asked.cache × (export_found found ≡ asked.export)
Agrees found (ToServe asked) = FindsTenants found asked.tenants × FindsLimits found (Some asked.limits)
    × FindsNumber (codes "cache") 1024 65536 found asked.cache × FindsNumber (codes "port") 0 65535 found asked.port
    × FindsNumber (codes "workers") 4 32 found asked.workers × FindsNumber (codes "sessions") 1048576 1048576 found asked.sessions
Agrees found ToCheck = Unit {0}
Agrees found (ToLoad tenant) = FindsTenants found (tenant ∷ [])

-- the limits and the numbers that are asked for are in their ranges
abbrev pub IsInRange : Demand → Type 0
IsInRange (ToReplay asked) = IsTrue (are_limits asked.limits.events asked.limits.tasks asked.limits.messages)
    × IsTrue (is_between 1 65536 asked.cache)
IsInRange (ToServe asked) = IsTrue (are_limits asked.limits.events asked.limits.tasks asked.limits.messages)
    × IsTrue (is_between 1 65536 asked.cache) × IsTrue (is_between 1 65535 asked.port) × IsTrue (is_between 1 32 asked.workers)
    × IsTrue (is_between 1 1048576 asked.sessions)
IsInRange ToCheck = Unit {0}
IsInRange (ToLoad tenant) = Unit {0}

-- The command line takes the words, and this is what they ask for.
pub record IsAskedBy (words : List (List ℕ)) (asked : Demand) : Type 0 where
  pub taken : kinds_of words ≡ []
  pub work : work_of words ≡ work_asked asked
  pub found : Agrees (found_in words) asked
  -- it is what the words say, if they are a command with its options and tenants, and nothing else
  pub exact : IfSome (asked_in words) (λ due. due ≡ asked)
  pub ranges : IsInRange asked
