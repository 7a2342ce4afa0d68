mod Digits
mod PlaceLemmas
pub mod Ranges
pub mod RefillLemmas
pub mod EndsLemmas
pub mod SkipLemmas
pub mod LineReadingLemmas
pub mod WordsLemmas
pub mod FirstWordLemmas
pub mod FirstNumberLemmas
pub mod WritingLemmas
pub mod GatherLemmas
pub mod PatienceLemmas
mod CallLemmas
pub mod PatientTexts
pub mod TextsInTurn
pub mod NextLineLemmas
