-- What lists of spaced tokens spell, made of what their parts spell.
use Rattle.std.proofs.Common.{◌≡◌, Bool, true, List, [], ◌∷◌, ◌++◌, map, refl, ap, ◌∙◌, append_assoc}
use Rattle.std.specs.List.{list_all, flat_map}
use Rattle.std.proofs.lemmas.Bool.{and_parts}
use Rattle.hhas_lex.specs.Spaced.{Spaced}
use Rattle.hhbc_repo.specs.Languages.{Lang, Many}
use Rattle.hhbc_repo.proofs.Clearing.{tokens_in}
use Rattle.hhbc_repo.proofs.PiecesSpelled.{tokens_both}

-- each value that passes a test, made a value of the language
pub many_spelled : {V W : Type 0} (A : Lang W) (make : V → W) (f : V → List Spaced) (test : V → Bool) → ((v : V) → test v ≡ true → A (tokens_in (f v)) (make v))
    → (vs : List V) → list_all test vs ≡ true → (ws : List W) (more : List Spaced) → Many A (tokens_in more) ws → Many A (tokens_in (flat_map f vs ++ more)) (map make vs ++ ws)
many_spelled A make f test each [] h ws more k = k
many_spelled A make f test each (v ∷ vs) h ws more k =
    let x = and_parts (test v) (list_all test vs) h in
    let rest = flat_map f vs ++ more in (
      tokens_in (f v),
      tokens_in rest,
      each v x.0,
      many_spelled A make f test each vs x.1 ws more k,
      ap tokens_in (append_assoc (f v) (flat_map f vs) more) ∙ tokens_both (f v) rest,
    )

-- ---- values of one kind among those of several

pub picked : {M V : Type 0} (select : List M → List V) (make : V → M) → ((v : V) (ms : List M) → select (make v ∷ ms) ≡ v ∷ select ms)
    → (vs : List V) (ms : List M) → select (map make vs ++ ms) ≡ vs ++ select ms
picked select make one [] ms = refl
picked select make one (v ∷ vs) ms = one v (map make vs ++ ms) ∙ ap (λ l. v ∷ l) (picked select make one vs ms)

pub passed_over : {M V X : Type 0} (select : List M → List X) (make : V → M) → ((v : V) (ms : List M) → select (make v ∷ ms) ≡ select ms)
    → (vs : List V) (ms : List M) → select (map make vs ++ ms) ≡ select ms
passed_over select make one [] ms = refl
passed_over select make one (v ∷ vs) ms = one v (map make vs ++ ms) ∙ passed_over select make one vs ms
