-- What is left of a body after each of its parts.
use Rattle.std.proofs.Common.{ℕ, List, [], ◌∷◌, refl, Option, codes}
use Rattle.hhas_lex.specs.Tokens.{Mark}
use Rattle.hhbc_repo.specs.declared.parts.TypeParts.{TypeParts}
use Rattle.hhbc_repo.specs.BodySyntax.{ABody, Declared, Inner, Iterators, Params, Returns}
use Rattle.hhbc_repo.specs.CodeSyntax.{AWord}
use Rattle.hhbc_repo.specs.Languages.{Both}
use Rattle.hhas_read.specs.Directives.{no_directive}
use Rattle.hhas_read.specs.Reading.{Placed, Taken, any}
use Rattle.hhas_read.proofs.BodyForms.{Counted, ItemsToEnd, Named, Stated, StatedToBrace, body_named, body_of}
use Rattle.hhas_read.proofs.BodyLaws.{counted_leads, declared_locals_law, items_lead, iterators_law, params_law, stated_law}
use Rattle.hhas_read.proofs.OneAtom.{a_word}
use Rattle.hhas_read.proofs.Onward.{Onward, at_start, part_taken, turned}
use Rattle.hhas_read.proofs.Within.{fixed_between}

pub at_name : (old : Placed) → Onward any ABody Named body_of old old
at_name old = turned Named body_of (at_start any ABody old) (body_named old.tokens)

pub at_params : (old now : Placed) (name : List ℕ) → Taken any AWord old now name → Onward any ABody (Both Params Stated) (λ r. body_of (name, r)) old now
at_params old now name t = part_taken any (λ b v x n o. refl) a_word now name (at_name old) t

module _ {start old : Placed} {name : List ℕ} (now : Placed) where
  pub at_stated : (params : List (List ℕ)) → Onward any ABody (Both Params Stated) (λ r. body_of (name, r)) start old → Taken any Params old now params
      → Onward any ABody (Both StatedToBrace Inner) (λ r. body_of (name, (params, r))) start now
  at_stated params o t =
      turned (Both StatedToBrace Inner) (λ p. p) (part_taken any (λ b v x n o. refl) params_law now params o t) (fixed_between any Returns (Mark 123 ∷ []) Inner now.tokens)

  pub at_locals : {params : List (List ℕ)} (stated : Option TypeParts) → Onward any ABody (Both StatedToBrace Inner) (λ r. body_of (name, (params, r))) start old
      → Taken any StatedToBrace old now stated → Onward any ABody (Both Declared Counted) (λ r. body_of (name, (params, (stated, r)))) start now
  at_locals stated o t = part_taken any (λ b v x n o. refl) stated_law now stated o t

  pub at_iters : {params : List (List ℕ)} {stated : Option TypeParts} (locals : List (List ℕ))
      → Onward any ABody (Both Declared Counted) (λ r. body_of (name, (params, (stated, r)))) start old → Taken (no_directive (codes "declvars")) Declared old now locals
      → Onward any ABody (Both Iterators ItemsToEnd) (λ r. body_of (name, (params, (stated, (locals, r))))) start now
  at_iters locals o t = part_taken (no_directive (codes "declvars")) counted_leads declared_locals_law now locals o t

  pub at_items : {params : List (List ℕ)} {stated : Option TypeParts} {locals : List (List ℕ)} (iters : ℕ)
      → Onward any ABody (Both Iterators ItemsToEnd) (λ r. body_of (name, (params, (stated, (locals, r))))) start old
      → Taken (no_directive (codes "numiters")) Iterators old now iters
      → Onward any ABody ItemsToEnd (λ r. body_of (name, (params, (stated, (locals, (iters, r)))))) start now
  at_items iters o t = part_taken (no_directive (codes "numiters")) items_lead iterators_law now iters o t
