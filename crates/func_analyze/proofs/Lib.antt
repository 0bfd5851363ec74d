mod AnnotatedBodies
mod ChainAnnotated
mod ChainLeast
mod ChainProper
mod ChainRounds
mod ClaimsHold
mod ClassChains
mod Examples
mod FactsTrue
mod Faithful
mod Raising
mod RoundOrder
mod Trimmed
mod TypeLaws
mod Unique
pub mod Putting
pub mod RoundResults
pub mod SecondForm
pub mod SpellingKept
