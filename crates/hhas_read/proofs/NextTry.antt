-- What is left of a block, where a try is next, and where none of its bodies goes on.
use Rattle.std.proofs.Common.{◌≡◌, Bool, true, false, List, [], ◌∷◌, ◌++◌, refl, sym, ap, ◌∙◌, append_assoc, codes}
use Rattle.hhas_lex.specs.Tokens.{Token, Directive, Mark, front}
use Rattle.hhbc_repo.specs.declared.parts.ItemParts.{ItemParts}
use Rattle.hhbc_repo.specs.declared.parts.ItemParts.TheVariants as parts
use Rattle.hhbc_repo.specs.BodySyntax as body
use Rattle.hhbc_repo.specs.BodySyntax.{Items, ItemsOf, parts_of}
use Rattle.hhbc_repo.specs.Languages.{Lang, Both}
use Rattle.hhas_read.specs.Nesting.{Opening}
use Rattle.hhas_read.specs.Reading.{any}
use Rattle.hhas_read.proofs.Nesting.{AfterCatch, AfterTry, Begins, Block, Braced, brace, no_directive, no_mark}
use Rattle.hhas_read.proofs.NextItem.{block_begins}
use Rattle.hhas_read.proofs.Resuming.{Resumes}

-- ---- a try from its pieces

-- its tokens
abbrev pub try_tokens : List Token → List Token → List Token → List Token
try_tokens a b r = Directive (codes "try") ∷ Mark 123 ∷ (a ++ (brace ∷ Directive (codes "catch") ∷ Mark 123 ∷ (b ++ (brace ∷ r))))

regroup : (u v c w a b r z : List Token) → u ++ (a ++ (c ++ (b ++ (w ++ (r ++ z))))) ≡ (u ++ (a ++ (c ++ (b ++ (w ++ r))))) ++ z
regroup u v c w a b r z = simp append_assoc

regroup_parts : (a b r z : List ItemParts) (c e : ItemParts) → a ++ (c ∷ (b ++ (e ∷ (r ++ z)))) ≡ (a ++ (c ∷ (b ++ (e ∷ r)))) ++ z
regroup_parts a b r z c e = simp append_assoc

abbrev pub opens : List Token
opens = Directive (codes "try") ∷ Mark 123 ∷ []

abbrev pub turns : List Token
turns = brace ∷ Directive (codes "catch") ∷ Mark 123 ∷ []

pub all_tokens : (a b r z : List Token) → opens ++ (a ++ (turns ++ (b ++ ((brace ∷ []) ++ (r ++ z))))) ≡ try_tokens a b r ++ z
all_tokens a b r z = regroup opens [] turns (brace ∷ []) a b r z

module _ (K : Lang (List ItemParts)) where
  abbrev Rest : Lang (List ItemParts)
  Rest = Block false K

  abbrev CatchBody : Lang (List ItemParts)
  CatchBody = Block true (AfterCatch Rest)

  abbrev TryBody : Lang (List ItemParts)
  TryBody = Block true (AfterTry Rest)

  pub try_on : (needed : Bool) (ts : List Token) (u : Unit {0} × List ItemParts) → Both (Opening (codes "try")) TryBody ts u → Block needed K ts (parts.Try ∷ u.1)
  try_on needed ts u m =
      let a = m.right in let s = a.behind.word in let b = s.right in let q = b.behind.word in let r = q.right in
      record {
        nested = body.Try a.nested b.nested r.nested;
        first = try_tokens a.first b.first r.first;
        rest = r.rest;
        more = r.more;
        word = (a.code refl, b.code refl, (a.first, b.first, r.first, a.word, b.word, r.word, refl));
        code = λ e. refl;
        behind = r.behind;
        tokens = tokens_of ts m.first m.second a.first a.rest s.first s.second b.first b.rest q.first q.second r.first r.rest
            m.tokens m.left.0 a.tokens s.tokens s.left.0 b.tokens q.tokens q.left r.tokens;
        told = parts_told u.1 (parts_of a.nested) a.more a.behind.value.1 (parts_of b.nested) b.more b.behind.value.1 (parts_of r.nested) r.more
            a.told a.behind.is b.told b.behind.is r.told;
      }
    where
      tokens_of : (ts mf ms af ar sf ss bf br qf qs rf rr : List Token) → ts ≡ mf ++ ms → mf ≡ opens → ms ≡ af ++ ar → ar ≡ sf ++ ss → sf ≡ turns → ss ≡ bf ++ br
          → br ≡ qf ++ qs → qf ≡ brace ∷ [] → qs ≡ rf ++ rr → ts ≡ try_tokens af bf rf ++ rr
      tokens_of ts mf ms af ar sf ss bf br qf qs rf rr e1 e2 e3 e4 e5 e6 e7 e8 e9 =
          let last : br ≡ (brace ∷ []) ++ (rf ++ rr) = e7 ∙ (λ i. e8 i ++ e9 i) in
          let mid : ar ≡ turns ++ (bf ++ ((brace ∷ []) ++ (rf ++ rr))) = e4 ∙ (λ i. e5 i ++ (e6 ∙ ap (λ l. bf ++ l) last) i) in
          e1 ∙ (λ i. e2 i ++ (e3 ∙ ap (λ l. af ++ l) mid) i) ∙ all_tokens af bf rf rr

      parts_told : (u pa ma ua pb mb ub pr mr : List ItemParts) → u ≡ pa ++ ma → ma ≡ parts.Catch ∷ ua → ua ≡ pb ++ mb → mb ≡ parts.End ∷ ub → ub ≡ pr ++ mr
          → ◌≡◌ {A = List ItemParts} (parts.Try ∷ u) ((parts.Try ∷ (pa ++ (parts.Catch ∷ (pb ++ (parts.End ∷ pr))))) ++ mr)
      parts_told u pa ma ua pb mb ub pr mr e1 e2 e3 e4 e5 =
          let last : mb ≡ parts.End ∷ (pr ++ mr) = e4 ∙ ap (λ l. parts.End ∷ l) e5 in
          let mid : ma ≡ parts.Catch ∷ (pb ++ (parts.End ∷ (pr ++ mr))) = e2 ∙ ap (λ l. parts.Catch ∷ l) (e3 ∙ ap (λ l. pb ++ l) last) in
          ap (λ l. parts.Try ∷ l) (e1 ∙ ap (λ l. pa ++ l) mid ∙ regroup_parts pa pb pr mr parts.Catch parts.End)

  try_off : (a b r : Items) (first rest : List Token) (more : List ItemParts) (ts : List Token) (xs : List ItemParts) → ItemsOf first (body.Try a b r) → K rest more
      → ts ≡ first ++ rest → xs ≡ parts_of (body.Try a b r) ++ more → (u : List ItemParts) × Both (Opening (codes "try")) TryBody ts (tt, u) × (xs ≡ parts.Try ∷ u)
  try_off a b r first rest more ts xs n k e f =
      let ft = n.2.0 in let fc = n.2.1 in let fr = n.2.2 in
      let pr = parts_of r ++ more in
      let after_r : Rest (fr ++ rest) pr =
      record { nested = r; first = fr; rest = rest; more = more; word = n.2.5; code = λ d. absurd (cc d); behind = k; tokens = refl; told = refl } in
      let pb = parts_of b ++ (parts.End ∷ pr) in
      let in_catch : CatchBody (fc ++ (brace ∷ (fr ++ rest))) pb = record {
        nested = b;
        first = fc;
        rest = brace ∷ (fr ++ rest);
        more = parts.End ∷ pr;
        word = n.2.4;
        code = λ d. n.1;
        behind = record { value = (tt, pr); word = record { first = brace ∷ []; second = fr ++ rest; left = refl; right = after_r; tokens = refl }; is = refl };
        tokens = refl;
        told = refl;
      } in
      let pa = parts_of a ++ (parts.Catch ∷ pb) in
      let in_try : TryBody (ft ++ (turns ++ (fc ++ (brace ∷ (fr ++ rest))))) pa = record {
        nested = a;
        first = ft;
        rest = turns ++ (fc ++ (brace ∷ (fr ++ rest)));
        more = parts.Catch ∷ pb;
        word = n.2.3;
        code = λ d. n.0;
        behind = record { value = (tt, pb); word = record { first = turns; second = fc ++ (brace ∷ (fr ++ rest)); left = (refl, refl); right = in_catch; tokens = refl }; is = refl };
        tokens = refl;
        told = refl;
      } in (
        pa,
        record {
          first = opens;
          second = ft ++ (turns ++ (fc ++ (brace ∷ (fr ++ rest))));
          left = (refl, refl);
          right = in_try;
          tokens = e ∙ ap (λ l. l ++ rest) n.2.6 ∙ sym (all_tokens ft fc fr rest);
        },
        f ∙ ap (λ l. parts.Try ∷ l) (sym (regroup_parts (parts_of a) (parts_of b) (parts_of r) more parts.Catch parts.End)),
      )

  -- a try is next
  pub try_next : (needed : Bool) (braced : Braced K) (left : List Token) → front left ≡ Directive (codes "try")
      → Resumes any (Block needed K) [] (Both (Opening (codes "try")) TryBody) (λ p. parts.Try ∷ p.1) left
  try_next needed braced left is = record {
    on = λ ts u m. try_on needed ts u m;
    back = λ v xs x y b o h e. back b.nested b.first b.rest b.more v xs b.word b.behind b.tokens b.told (front (v ++ x)) (block_begins needed K braced v xs x b) (ap front e ∙ h ∙ is);
  }
    where
      back : (i : Items) (first rest : List Token) (more : List ItemParts) (v : List Token) (xs : List ItemParts) → ItemsOf first i → K rest more
          → v ≡ first ++ rest → xs ≡ parts_of i ++ more → (t : Token) → Begins i brace t → t ≡ Directive (codes "try")
          → (ts : List Token) × (u : Unit {0} × List ItemParts) × Both (Opening (codes "try")) TryBody ts u × (v ≡ ts) × (xs ≡ parts.Try ∷ u.1)
      back body.Done first rest more v xs n k e f t h is = absurd (no_mark (codes "try") 125 (sym is ∙ h))
      back (body.Label z r) first rest more v xs n k e f t h is = absurd (no_directive (codes "try") z (sym is ∙ h.0))
      back (body.Position p r) first rest more v xs n k e f t h is = absurd (no_directive (codes "try") h.0 (sym is ∙ h.1))
      back (body.Try a b r) first rest more v xs n k e f t h is =
          let one = try_off a b r first rest more v xs n k e f in (v, (tt, one.0), one.1, refl, one.2)
