-- What a run of the program does.
use Rattle.std.specs.Prelude.{◌≡◌, ◌≢◌, ℕ, ◌<◌, List, ◌⊎◌, IfSome, true}
use Rattle.trace_types.specs.text.Name.{Text}
use Rattle.line_protocol.specs.Source.{Given}
use Rattle.line_protocol.specs.Sink.{Taken}
use Rattle.command_line.specs.Demand.{Demand, asked_in}
use Rattle.collector.specs.Taking.{is_taken}
use Rattle.command_line.specs.Reading.{AsksForHelp, IsAskedBy, Loading, MayBeRefused, kinds_of, work_of}
use Rattle.collector.specs.Program.{BreaksOff, Does, DoesInPart, GoesThrough, IsQuiet, IsUntouched, LacksMemory, NothingFails, RefusesTenants, ShowsSome, ShowsSomeAll, TellsFault, TellsNo}
use Rattle.collector.specs.declared.fault.Fault.{Fault}
use Rattle.collector.specs.declared.fault.Fault.TheVariants.{Memory, Write}

-- What a run with these words did that ends with this status: by the reader, the writer and the one for errors before
-- and after it, and by what is seen of each.
pub record Runs {R W E : Type 0} (given : R → Given) (taken : W → Taken) (told : E → Taken) (words : List Text) (status : ℕ)
    (reader reader' : R) (writer writer' : W) (errors errors' : E) : Type 0 where
  -- Status 2: the command line refuses the words, or takes them and the tenants are refused. Nothing was read or
  -- written, but for a text on standard error.
  pub words_refused : status ≡ 2
      → MayBeRefused (kinds_of words) × IsUntouched reader reader' writer writer' × ShowsSome (told errors) (told errors')
  -- If the words ask for a replay, a service or a load, its tenants and the one to be exported alone decide whether they
  -- are refused, and the line says so. Words that ask for a check are not refused. Or the program ran out of memory before
  -- it knew the tenants.
  pub tenants_refused : IfSome (asked_in words) (λ asked. RefusesTenants (is_taken asked) (told errors) (told errors') status
      ⊎ ((status ≡ 4) × IsUntouched reader reader' writer writer'))
  -- Status 4: no read or write failed. Nothing was read, and nothing written on the output, or the tenants are taken and it is
  -- known what of the work was done. Of an export a prefix was written, and of a service the first line. A check had read,
  -- and written no verdict. A load had read, and perhaps written a prefix of the requests.
  pub memory : status ≡ 4 → TellsFault (told errors) (told errors') Memory
      × NothingFails (given reader) (given reader') (taken writer) (taken writer')
      × (IsUntouched reader reader' writer writer'
      ⊎ ((asked : Demand) × IsAskedBy words asked × (is_taken asked ≡ true)
      × LacksMemory given taken asked reader reader' writer writer'))
  -- Status 0 and 1: no read or write failed, and all that was written was handed on. Help was asked for and the whole of
  -- it shown, and nothing was read; or the words are taken, and what they ask for was done: all lines of these tenants were
  -- replayed, or the export of one of them was written, or programs were served, or a verdict was told, with status 1 if it
  -- is a no, or an export was loaded, with status 1 if it is not.
  pub done : status < 2 → IsQuiet (work_of words) status errors errors'
      × GoesThrough (given reader) (given reader') (taken writer) (taken writer')
      × (((status ≡ 0) × AsksForHelp (kinds_of words) × (reader' ≡ reader) × ShowsSomeAll (taken writer) (taken writer'))
      ⊎ ((asked : Demand) × IsAskedBy words asked × (is_taken asked ≡ true)
      × Does given asked reader reader' (taken writer) (taken writer') status))
  -- If an export is not loaded, a line tells why. Nothing was asked for behind the faulty line.
  pub not_loaded : status ≡ 1 → work_of words ≡ Loading → TellsNo given reader reader' (told errors) (told errors')
  -- If the words are a command with its options and tenants, and nothing else, that was done and no help shown.
  pub did : status < 2 → IfSome (asked_in words) (λ asked.
      Does given asked reader reader' (taken writer) (taken writer') status)
  -- Any other status is 3, and the fault that broke the run off is told. Help was asked for, nothing was read, and a
  -- write of the help failed; or the words are taken, and what they ask for was done in part.
  pub broken_off : (2 < status) × (status ≢ 4) → (status ≡ 3) × (fault : Fault)
      × BreaksOff given reader reader' (taken writer) (taken writer') (asked_in words) fault
      × TellsFault (told errors) (told errors') fault
      × ((AsksForHelp (kinds_of words) × (reader' ≡ reader) × (fault ≡ Write) × ShowsSome (taken writer) (taken writer'))
      ⊎ ((asked : Demand) × IsAskedBy words asked × (is_taken asked ≡ true)
      × DoesInPart given asked fault reader reader' (taken writer) (taken writer')))
