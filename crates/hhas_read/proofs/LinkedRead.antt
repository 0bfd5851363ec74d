-- What is read of bytes that are a text's is read of the text.
use Rattle.std.proofs.Common.{◌≡◌, ℕ, List, Result, Ok, Err, IfOk, subst}
use Rattle.hhbc_repo.specs.Linked.{Linked}
use Rattle.hhbc_repo.specs.LinkFaults.{Whole}
use Rattle.hhbc_repo.specs.TextSyntax.{Spells}
use Rattle.hhas_read.specs.declared.linked_texts.ReadFault.{ReadFault}
use Rattle.hhas_read.specs.LinkedTexts.{LinksParts, ReadsRepository}

pub reads_linked : (bytes text : List ℕ) (w : Whole) (result : Result Linked ReadFault) → bytes ≡ text → Spells bytes w → LinksParts w result
    → IfOk result (λ repo. ReadsRepository text repo)
reads_linked bytes text w (Ok repo) same spells links = record { parts = w; spells = subst (λ (b : List ℕ). Spells b w) same spells; links = links }
reads_linked bytes text w (Err fault) same spells links = tt
