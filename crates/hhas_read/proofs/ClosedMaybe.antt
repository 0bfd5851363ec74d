-- What a token begins, or nothing, and the token at its end.
use Rattle.std.proofs.Common.{◌≡◌, List, [], ◌∷◌, ◌++◌, Option, Some, None, refl, sym, ap, ◌∙◌}
use Rattle.hhas_lex.specs.Tokens.{Token, front}
use Rattle.hhbc_repo.specs.Languages.{Lang, Behind, Ended, Perhaps}
use Rattle.hhas_read.specs.Reading.{Follow, Just}
use Rattle.hhas_read.proofs.Resuming.{Resumes}

module _ {V : Type 0} (t : Token) (A : Lang V) (end : Token) where
  abbrev pub Closing : Lang (Option V)
  Closing = Ended (Perhaps (Behind (t ∷ []) A)) (end ∷ [])

  pub there_resumes : (F : Follow) (left : List Token) → (end ≡ t → ⊥) → Resumes F Closing (t ∷ []) (Ended A (end ∷ [])) Some left
  there_resumes F left other = record { on = on; back = λ w v x y n o h e. back w v x y n e }
    where
      on : (ts : List Token) (u : V) → Ended A (end ∷ []) ts u → Closing (t ∷ ts) (Some u)
      on ts u m = record { first = t ∷ m.first; word = record { rest = m.first; word = m.word; tokens = refl }; tokens = ap (λ l. t ∷ l) m.tokens }

      back : (w : List Token) (v : Option V) (x y : List Token) → Closing w v → w ++ x ≡ t ∷ y
          → (ts : List Token) × (u : V) × Ended A (end ∷ []) ts u × (w ≡ t ∷ ts) × (v ≡ Some u)
      back w None x y n e =
          let whole : w ≡ end ∷ [] = n.tokens ∙ ap (λ l. l ++ (end ∷ [])) n.word in
          absurd (other (ap front (ap (λ l. l ++ x) (sym whole) ∙ e)))
      back w (Some u) x y n e =
          let b = n.word in (b.rest ++ (end ∷ []), u, record { first = b.rest; word = b.word; tokens = refl }, n.tokens ∙ ap (λ l. l ++ (end ∷ [])) b.tokens, refl)

  pub missing_resumes : (F : Follow) (left : List Token) → (front left ≡ t → ⊥) → Resumes F Closing [] (Just end) (λ u. None) left
  missing_resumes F left other = record { on = λ ts u m. record { first = []; word = refl; tokens = m }; back = λ w v x y n o h e. back w v x y n h e }
    where
      back : (w : List Token) (v : Option V) (x y : List Token) → Closing w v → front y ≡ front left → w ++ x ≡ y
          → (ts : List Token) × (u : Unit {0}) × (ts ≡ end ∷ []) × (w ≡ ts) × (v ≡ None)
      back w None x y n h e = (w, tt, n.tokens ∙ ap (λ l. l ++ (end ∷ [])) n.word, refl, refl)
      back w (Some u) x y n h e =
          absurd (other (sym h ∙ ap front (sym e) ∙ ap (λ l. front (l ++ x)) (n.tokens ∙ ap (λ l. l ++ (end ∷ [])) n.word.tokens)))
