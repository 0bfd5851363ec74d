-- Texts without their end stand apart from the end, and have one value.
use Rattle.std.proofs.Common.{◌≡◌, List, [], ◌∷◌, refl, sym, codes, pos, subst}
use Rattle.hhas_lex.specs.Tokens.{Token, Directive, Integer, Mark}
use Rattle.hhbc_repo.specs.Languages.{Lang, Behind}
use Rattle.hhbc_repo.specs.LinkFaults.{Whole}
use Rattle.hhas_read.specs.Declarations.{parts_of}
use Rattle.hhas_read.specs.TextWithoutEnd.{DeclaredText, is_end}
use Rattle.hhas_read.proofs.Carried.{carried_lawful, carried_resumes}
use Rattle.hhas_read.proofs.DeclarationForms.{AllDeclared, all_declared_law}
use Rattle.hhas_read.proofs.Joining.{Lawful, behind_lawful}
use Rattle.hhas_read.proofs.Resuming.{Resumes}

abbrev pub profile_tokens : List Token
profile_tokens = Directive (codes "profile") ∷ Integer (pos 1) ∷ Mark 59 ∷ []

abbrev pub WholeText : Lang Whole
WholeText = Behind profile_tokens AllDeclared

text_on : (w : List Token) (r : Whole) → WholeText w r → DeclaredText w r
text_on w r m =
    let q = m.word in
    subst (DeclaredText w) (sym q.is) (record { declared = q.value; word = record { rest = m.rest; word = q.word; tokens = m.tokens }; functions = refl; classes = refl })

text_off : (w : List Token) (r : Whole) → DeclaredText w r → (u : Whole) × WholeText w u × (r ≡ u)
text_off w r n = (
  parts_of n.declared,
  record { rest = n.word.rest; word = record { value = n.declared; word = n.word.word; is = refl }; tokens = n.word.tokens },
  λ i. record { functions = n.functions i; classes = n.classes i },
)

pub text_resumes : (left : List Token) → Resumes is_end DeclaredText [] WholeText (λ r. r) left
text_resumes left = carried_resumes is_end DeclaredText WholeText (λ r. r) text_on text_off left

pub declared_law : Lawful is_end DeclaredText
declared_law = carried_lawful is_end DeclaredText WholeText (λ r. r) text_on text_off (behind_lawful is_end profile_tokens AllDeclared refl all_declared_law)
