-- Member sequences behind their base.
use Rattle.std.proofs.Common.{◌≡◌, false, true, List, [], ◌++◌, refl, sym, ap, ◌∙◌, append_assoc, Err}
use Rattle.hhas_lex.specs.Tokens.{Token}
use Rattle.hhbc_repo.specs.declared.parts.BaseParts.{BaseParts}
use Rattle.hhbc_repo.specs.declared.parts.MemberSeqParts.{MemberSeqParts}
use Rattle.hhbc_repo.specs.CodeSyntax.{ABase, AMemberSeq}
use Rattle.hhas_read.specs.declared.reader.Stop.{Stop}
use Rattle.hhas_read.specs.declared.reader.Stop.TheVariants.{Syntax, NoMemory}
use Rattle.hhas_read.specs.Reading.{Placed, Taken, Reads, any}
use Rattle.hhas_read.specs.Sequences.{DimsAfter}
use Rattle.hhas_read.proofs.Resuming.{Resumes}
use Rattle.hhas_read.proofs.Joining.{all_append}
use Rattle.hhas_read.proofs.FinalForms.{some_final}
use Rattle.hhas_read.proofs.FormLaws.{base_lawful}
use Rattle.hhas_read.proofs.DimForms.{Sequel}

abbrev pub with_base : BaseParts → Sequel → MemberSeqParts
with_base b p = record { base = b; dims = p.0; last = p.1 }

pub base_taken : (old mid : Placed) (b : BaseParts) → (t : Taken any ABase old mid b) → Resumes any AMemberSeq t.used (DimsAfter false) (with_base b) mid.tokens
base_taken old mid b t = record {
  on = λ ts p m. record { word = record { first = t.used; second = ts; left = t.word; right = m.0; tokens = refl }; nullsafe = m.1 };
  back = λ w v x y n o h e. back w v x y n e;
}
  where
    back : (w : List Token) (v : MemberSeqParts) (x y : List Token) → AMemberSeq w v → w ++ x ≡ t.used ++ y
        → (ts : List Token) × (u : Sequel) × DimsAfter false ts u × (w ≡ t.used ++ ts) × (v ≡ with_base b u)
    back w v x y n e =
        let m = n.word in
        let s = base_lawful.same m.first t.used (m.second ++ x) y v.base b m.left t.word refl refl
        (sym (append_assoc m.first m.second x) ∙ ap (λ l. l ++ x) (sym m.tokens) ∙ e) in
        (m.second, (v.dims, v.last), (m.right, n.nullsafe), m.tokens ∙ ap (λ l. l ++ m.second) s.0, ap (λ z. with_base z (v.dims, v.last)) s.1)

pub base_stops : (old new : Placed) (e : Stop) → Reads any ABase old (Err e) new → Reads any AMemberSeq old (Err e) new
base_stops old new Syntax s =
    let end = some_final true in record {
      read = s.read;
      past = s.past;
      viable = record {
        more = s.viable.more ++ end.more;
        value = with_base s.viable.value ([], end.value);
        word = record {
          word = record {
            first = s.read ++ s.viable.more;
            second = end.more;
            left = s.viable.word;
            right = record { first = []; second = end.more; left = refl; right = end.word.0; tokens = refl };
            tokens = sym (append_assoc s.read s.viable.more end.more);
          };
          nullsafe = λ h. end.word.1 refl;
        };
        proper = all_append s.viable.more end.more s.viable.proper end.proper;
      };
      dead = λ w v x y n o d.
          let m = n.word in
          s.dead m.first v.base (m.second ++ x) y m.left refl (sym (append_assoc m.first m.second x) ∙ ap (λ l. l ++ x) (sym m.tokens) ∙ d);
    }
base_stops old new NoMemory s = tt
