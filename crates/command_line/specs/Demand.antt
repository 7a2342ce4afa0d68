-- What the words of the command line ask for.
use Rattle.std.specs.Prelude.{ℕ, Bool, true, false, not, ◌==◌, List, [], ◌∷◌, map, Option, Some, None, option_map, option_and_then, if◌then◌else◌, codes}
use Rattle.std.specs.List.{filter}
use Rattle.trace_types.specs.tenant.Limits.{Limits, default_limits}
use Rattle.trace_types.specs.text.Name.{Text, is_same, is_between}
use Rattle.trace_types.specs.text.Reading.{number_of}

-- what a replay is asked for: the limits that each tenant has, how many comparisons are remembered of all of them
-- together, the tenants, and the one whose export is asked for in place of replies
pub record AskedReplay : Type 0 where
  pub limits : Limits
  pub cache : ℕ
  pub tenants : List Text
  pub export : Option Text

-- what a service is asked for: the port, how many sessions are held at once, after how many connections no more is taken,
-- and, as of a replay, limits, comparisons and tenants
pub record AskedService : Type 0 where
  pub port : ℕ
  pub workers : ℕ
  pub sessions : ℕ
  pub limits : Limits
  pub cache : ℕ
  pub tenants : List Text

-- what the program is asked to do; a load is asked for with the tenant to which its requests are written
pub data Demand : Type 0 where
  ToReplay : AskedReplay → Demand
  ToServe : AskedService → Demand
  ToCheck : Demand
  ToLoad : Text → Demand

-- what a word is: a tenant, or the number or the name of an option
pub data Role : Type 0 where
  Tenant : Role
  Events : Role
  Tasks : Role
  Messages : Role
  Cache : Role
  Export : Role
  Port : Role
  Workers : Role
  Sessions : Role

-- whether two roles are the same
abbrev pub is_role : Role → Role → Bool
is_role Tenant Tenant = true
is_role Events Events = true
is_role Tasks Tasks = true
is_role Messages Messages = true
is_role Cache Cache = true
is_role Export Export = true
is_role Port Port = true
is_role Workers Workers = true
is_role Sessions Sessions = true
is_role a b = false

-- a word and its role
pub record Part : Type 0 where
  pub role : Role
  pub word : Text

-- whether the word begins otherwise than with `-`
abbrev pub is_plain : Text → Bool
is_plain [] = true
is_plain (byte ∷ bytes) = not (byte == 45)

-- the option whose number or name has this role; tenants have none
abbrev pub option_of : Role → Text
option_of Tenant = []
option_of Events = codes "--events"
option_of Tasks = codes "--tasks"
option_of Messages = codes "--messages"
option_of Cache = codes "--cache"
option_of Export = codes "--export"
option_of Port = codes "--port"
option_of Workers = codes "--workers"
option_of Sessions = codes "--sessions"

-- the role of the word after this one, if this one is the option of one of these roles
abbrev pub option_named : List Role → Text → Option Role
option_named [] word = None
option_named (role ∷ roles) word = if is_same word (option_of role) then Some role else option_named roles word

-- the options of a replay
abbrev pub replay_options : List Role
replay_options = Events ∷ Tasks ∷ Messages ∷ Cache ∷ Export ∷ []

-- the options of a service
abbrev pub service_options : List Role
service_options = Port ∷ Workers ∷ Sessions ∷ Events ∷ Tasks ∷ Messages ∷ Cache ∷ []

-- the parts, and one before them
abbrev pub with_part : Role → Text → Option (List Part) → Option (List Part)
with_part role word = option_map (λ parts. record { role = role; word = word } ∷ parts)

-- The parts of the words, if there are these options, and the word before them was this one. A plain word is a tenant,
-- and the word after an option is its number or its name. Of words with `-` in front that are no such option, as those that
-- ask for help, nothing is said here.
abbrev pub parts_after : List Role → Option Role → List Text → Option (List Part)
parts_after options None [] = Some []
parts_after options None (word ∷ words) =
    if is_plain word then with_part Tenant word (parts_after options None words)
    else option_and_then (λ role. parts_after options (Some role) words) (option_named options word)
parts_after options (Some role) [] = None
parts_after options (Some role) (word ∷ words) = with_part role word (parts_after options None words)

-- the words of this role
abbrev pub words_for : Role → List Part → List Text
words_for role parts = map (λ part. part.word) (filter (λ part. is_role role part.role) parts)

-- the number that the word spells, if it is one from 1 to this most
abbrev pub number_up_to : ℕ → Text → Option ℕ
number_up_to most word = option_and_then (λ number. if is_between 1 most number then Some number else None) (number_of word)

-- the number of an option that is not used; a port has none
abbrev pub default_of : Role → Option ℕ
default_of Events = Some default_limits.events
default_of Tasks = Some default_limits.tasks
default_of Messages = Some default_limits.messages
default_of Cache = Some 1024
default_of Workers = Some 4
default_of Sessions = Some 1048576
default_of role = None

-- the most that the number of an option may be
abbrev pub most_of : Role → ℕ
most_of Events = 16384
most_of Tasks = 2048
most_of Messages = 16384
most_of Cache = 65536
most_of Port = 65535
most_of Workers = 32
most_of Sessions = 1048576
most_of role = 0

-- the number by the words of its option, which is used once at most
abbrev pub number_by_words : Option ℕ → ℕ → List Text → Option ℕ
number_by_words default most [] = default
number_by_words default most (word ∷ []) = number_up_to most word
number_by_words default most words = None

-- the number that the parts ask for in this role
abbrev pub number_by : Role → List Part → Option ℕ
number_by role parts = number_by_words (default_of role) (most_of role) (words_for role parts)

-- the limits of these three numbers, if each is there
abbrev pub limits_of : Option ℕ → Option ℕ → Option ℕ → Option Limits
limits_of (Some events) (Some tasks) (Some messages) = Some (record { events = events; tasks = tasks; messages = messages })
limits_of events tasks messages = None

-- the limits that the parts ask for
abbrev pub limits_by : List Part → Option Limits
limits_by parts = limits_of (number_by Events parts) (number_by Tasks parts) (number_by Messages parts)

-- the tenant to be exported, if any, by the words of its option, which is used once at most
abbrev pub export_by : List Text → Option (Option Text)
export_by [] = Some None
export_by (word ∷ []) = if is_plain word then Some (Some word) else None
export_by words = None

-- the replay that these ask for, if each is there, and a tenant is
abbrev pub replay_with : List Text → Option Limits → Option ℕ → Option (Option Text) → Option AskedReplay
replay_with [] limits cache export = None
replay_with tenants (Some limits) (Some cache) (Some export) =
    Some (record { limits = limits; cache = cache; tenants = tenants; export = export })
replay_with tenants limits cache export = None

-- the replay that the parts ask for
abbrev pub replay_asked_by : List Part → Option AskedReplay
replay_asked_by parts = replay_with (words_for Tenant parts) (limits_by parts) (number_by Cache parts) (export_by (words_for Export parts))

-- the replay that the words after `replay` ask for, if they are options, each with its number or name, and tenants
abbrev pub replay_asked_in : List Text → Option AskedReplay
replay_asked_in words = option_and_then replay_asked_by (parts_after replay_options None words)

-- the service that these ask for, if each is there, and a tenant is
abbrev pub service_with : List Text → Option ℕ → Option ℕ → Option ℕ → Option Limits → Option ℕ → Option AskedService
service_with [] port workers sessions limits cache = None
service_with tenants (Some port) (Some workers) (Some sessions) (Some limits) (Some cache) =
    Some (record { port = port; workers = workers; sessions = sessions; limits = limits; cache = cache; tenants = tenants })
service_with tenants port workers sessions limits cache = None

-- the service that the parts ask for
abbrev pub service_asked_by : List Part → Option AskedService
service_asked_by parts = service_with (words_for Tenant parts) (number_by Port parts) (number_by Workers parts) (number_by Sessions parts)
    (limits_by parts) (number_by Cache parts)

-- the service that the words after `serve` ask for, if they are options, each with its number, and tenants
abbrev pub service_asked_in : List Text → Option AskedService
service_asked_in words = option_and_then service_asked_by (parts_after service_options None words)

-- the check that the words after `check` ask for, if there are none
abbrev pub check_asked_in : List Text → Option Demand
check_asked_in [] = Some ToCheck
check_asked_in (word ∷ words) = None

-- the load that these tenants ask for, if there is one
abbrev pub load_with : List Text → Option Demand
load_with (tenant ∷ []) = Some (ToLoad tenant)
load_with tenants = None

-- the load that the words after `load` ask for, if they are a tenant
abbrev pub load_asked_in : List Text → Option Demand
load_asked_in words = option_and_then (λ parts. load_with (words_for Tenant parts)) (parts_after [] None words)

-- what the words ask for, by the first of them
abbrev pub asked_in : List Text → Option Demand
asked_in [] = None
asked_in (first ∷ words) =
    if is_same first (codes "replay") then option_map ToReplay (replay_asked_in words)
    else if is_same first (codes "serve") then option_map ToServe (service_asked_in words)
    else if is_same first (codes "check") then check_asked_in words
    else if is_same first (codes "load") then load_asked_in words
    else None
