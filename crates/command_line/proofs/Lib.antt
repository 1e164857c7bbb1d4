pub mod CallLemmas
mod CommandLemmas
mod FoundLemmas
mod FrameCounts
pub mod NameLemmas
mod NumberLemmas
mod NumberWordLemmas
mod OptionLemmas
mod ParseLemmas
mod PlainLemmas
mod SimpleLemmas
mod TakenLemmas
