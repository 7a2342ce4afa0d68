-- Why the command line does not take some words, by its model.
use Rattle.std.proofs.Common.{◌≡◌, [], ◌∷◌, refl, codes}
use Rattle.clap.proofs.OnLiterals.{clap_on_literals}
use Rattle.clap.specs.declared.error.kind.ErrorKind.TheVariants.{DisplayHelp, DisplayVersion, InvalidSubcommand, UnknownArgument}
use Rattle.command_line.specs.Reading.{kinds_of}

help_is_asked_for : kinds_of (codes "--help" ∷ []) ≡ DisplayHelp ∷ []
unfolding clap_on_literals
help_is_asked_for = refl

the_version_is_asked_for : kinds_of (codes "--version" ∷ []) ≡ DisplayVersion ∷ []
unfolding clap_on_literals
the_version_is_asked_for = refl

help_may_be_asked_for : kinds_of (codes "help" ∷ codes "replay" ∷ []) ≡ DisplayHelp ∷ InvalidSubcommand ∷ []
unfolding clap_on_literals
help_may_be_asked_for = refl

an_option_is_unknown : kinds_of (codes "replay" ∷ codes "--no" ∷ codes "x" ∷ []) ≡ UnknownArgument ∷ []
unfolding clap_on_literals
an_option_is_unknown = refl

a_number_is_written_behind_its_option : kinds_of (codes "replay" ∷ codes "--events=5" ∷ codes "x" ∷ []) ≡ []
unfolding clap_on_literals
a_number_is_written_behind_its_option = refl

a_check_is_taken : kinds_of (codes "check" ∷ []) ≡ []
unfolding clap_on_literals
a_check_is_taken = refl

a_check_takes_no_word : kinds_of (codes "check" ∷ codes "x" ∷ []) ≡ UnknownArgument ∷ []
unfolding clap_on_literals
a_check_takes_no_word = refl
