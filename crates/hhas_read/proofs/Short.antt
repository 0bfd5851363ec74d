-- Short strings.
use Rattle.std.proofs.Common.{[], ◌∷◌, ◌++◌, refl, sym, ap, ◌∙◌, lit≤}
use Rattle.hhas_lex.specs.Tokens.{Str, front}
use Rattle.hhas_read.specs.Atoms.{ShortString}
use Rattle.hhas_read.specs.Reading.{any}
use Rattle.hhas_read.proofs.Joining.{Lawful}
use Rattle.hhas_read.proofs.Said.{same_string}

pub short_lawful : Lawful any ShortString
short_lawful = record {
  same = λ a b x y v w n m o p e.
      let s = same_string v w (ap front (sym (ap (λ l. l ++ x) n.0) ∙ e ∙ ap (λ l. l ++ y) m.0)) in
      (n.0 ∙ ap (λ z. Str z ∷ []) s ∙ sym m.0, s);
  some = record { more = Str [] ∷ []; value = []; word = (refl, lit≤ tt); proper = refl };
}
