-- A language whose values are those of another one's words through two functions, each value of the first being met.
use Rattle.std.proofs.Common.{◌≡◌, List, [], refl, sym, ap, ◌∙◌, subst}
use Rattle.hhas_lex.specs.Tokens.{Token}
use Rattle.hhbc_repo.specs.Languages.{Lang, Means}
use Rattle.hhas_read.specs.Reading.{Follow}
use Rattle.hhas_read.proofs.Joining.{Lawful}
use Rattle.hhas_read.proofs.Making.{made_lawful}
use Rattle.hhas_read.proofs.Resuming.{Resumes}

pub image_resumes : {U V W : Type 0} (F : Follow) (N : Lang V) (g : U → V) (f : V → W) (onto : (v : V) → (u : U) × (g u ≡ v)) (left : List Token)
    → Resumes F (Means f N) [] (λ ts (u : U). N ts (g u)) (λ u. f (g u)) left
image_resumes F N g f onto left = record {
  on = λ ts u m. record { value = g u; word = m; is = refl };
  back = λ w v x y n o h e.
      let is = (onto n.value).1 in
      (w, (onto n.value).0, subst (N w) (sym is) n.word, refl, n.is ∙ ap f (sym is));
}

pub image_lawful : {U V W : Type 0} (F : Follow) (N : Lang V) (g : U → V) (f : V → W) (onto : (v : V) → (u : U) × (g u ≡ v))
    → Lawful F (λ ts (u : U). N ts (g u)) → Lawful F (Means f N)
image_lawful F N g f onto law = made_lawful F (Means f N) (λ ts u. N ts (g u)) (λ u. f (g u)) (image_resumes F N g f onto) law
