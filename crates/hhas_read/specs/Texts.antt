-- What the fault of a whole text says.
use Rattle.std.specs.Prelude.{ℕ, List}
use Rattle.hhas_read.specs.declared.texts.PartsFault.{PartsFault}
use Rattle.hhas_read.specs.declared.texts.PartsFault.TheVariants.{TextFault, NoMemory}
use Rattle.hhbc_repo.specs.TextSyntax.{FirstFault}

-- a fault of a text is its first one. Memory may be wanting for any text
abbrev pub IsFault : List ℕ → PartsFault → Type 0
IsFault bytes (TextFault at) = FirstFault bytes at
IsFault bytes NoMemory = Unit {0}
