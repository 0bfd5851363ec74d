-- Words that are words of another language, with values made from the values there.
use Rattle.std.proofs.Common.{List, [], ◌++◌, refl, sym, ap, ◌∙◌}
use Rattle.hhas_lex.specs.Tokens.{Token}
use Rattle.hhbc_repo.specs.Languages.{Lang}
use Rattle.hhas_read.specs.Reading.{Follow}
use Rattle.hhas_read.proofs.Joining.{Lawful}
use Rattle.hhas_read.proofs.Resuming.{Resumes}

pub made_lawful : {V W : Type 0} (F : Follow) (N : Lang V) (M : Lang W) (f : W → V) → ((left : List Token) → Resumes F N [] M f left) → Lawful F M → Lawful F N
made_lawful F N M f r law = record {
  same = λ a b x y v w n m o p d.
      let g = (r (a ++ x)).back a v x (a ++ x) n o refl refl in
      let h = (r (b ++ y)).back b w y (b ++ y) m p refl refl in
      let s = law.same g.0 h.0 x y g.1 h.1 g.2 h.2 o p (ap (λ l. l ++ x) (sym g.3) ∙ d ∙ ap (λ l. l ++ y) h.3) in
      (g.3 ∙ s.0 ∙ sym h.3, g.4 ∙ ap f s.1 ∙ sym h.4);
  some = record { more = law.some.more; value = f law.some.value; word = (r []).on law.some.more law.some.value law.some.word; proper = law.some.proper };
}
