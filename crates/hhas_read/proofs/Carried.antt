-- A language with the words of another, and values made of its values.
use Rattle.std.proofs.Common.{◌≡◌, List, [], refl}
use Rattle.hhas_lex.specs.Tokens.{Token}
use Rattle.hhbc_repo.specs.Languages.{Lang, Means}
use Rattle.hhas_read.specs.Reading.{Follow}
use Rattle.hhas_read.proofs.Resuming.{Resumes}
use Rattle.hhas_read.proofs.Joining.{Lawful}
use Rattle.hhas_read.proofs.Making.{made_lawful}

module _ {V W : Type 0} (F : Follow) (N : Lang V) (M : Lang W) (f : W → V) (on : (w : List Token) (u : W) → M w u → N w (f u))
    (off : (w : List Token) (v : V) → N w v → (u : W) × M w u × (v ≡ f u)) where
  pub carried_resumes : (left : List Token) → Resumes F N [] M f left
  carried_resumes left = record { on = on; back = λ w v x y n o h e. let s = off w v n in (w, s.0, s.1, refl, s.2) }

  pub carried_lawful : Lawful F M → Lawful F N
  carried_lawful law = made_lawful F N M f carried_resumes law

pub means_lawful : {V W : Type 0} (F : Follow) (f : V → W) (A : Lang V) → Lawful F A → Lawful F (Means f A)
means_lawful F f A law = carried_lawful F (Means f A) A f (λ w u m. record { value = u; word = m; is = refl }) (λ w v n. (n.value, n.word, n.is)) law
