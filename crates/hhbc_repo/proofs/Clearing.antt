-- Lists of spaced tokens that are clear behind every token, and how they make longer ones.
use Rattle.std.proofs.Common.{◌≡◌, refl, Bool, true, ◌&&◌, List, [], ◌∷◌, ◌++◌, map}
use Rattle.std.specs.List.{list_all, flat_map}
use Rattle.std.proofs.lemmas.Bool.{and_from, and_parts}
use Rattle.hhas_lex.specs.Spaced.{Spaced, keeps_apart, is_clear}
use Rattle.hhas_lex.specs.Spelling.{is_proper, touches}
use Rattle.hhas_lex.specs.Tokens.{Token}

abbrev pub tokens_in : List Spaced → List Token
tokens_in ss = map (λ (s : Spaced). s.token) ss

abbrev pub Clear : List Spaced → Type 0
Clear ss = (t : Token) → is_clear t ss ≡ true

pub clear_then : (t : Token) (ss more : List Spaced) → is_clear t ss ≡ true → Clear more → is_clear t (ss ++ more) ≡ true
clear_then t [] more h k = k t
clear_then t (s ∷ ss) more h k =
    let x = and_parts (is_proper s.token) (keeps_apart s.space (touches t s.token) && is_clear s.token ss) h in
    let y = and_parts (keeps_apart s.space (touches t s.token)) (is_clear s.token ss) x.1 in
    and_from (is_proper s.token) (keeps_apart s.space (touches t s.token) && is_clear s.token (ss ++ more)) x.0
    (and_from (keeps_apart s.space (touches t s.token)) (is_clear s.token (ss ++ more)) y.0 (clear_then s.token ss more y.1 k))

pub clear_none : Clear []
clear_none t = refl

pub clear_both : (ss more : List Spaced) → Clear ss → Clear more → Clear (ss ++ more)
clear_both ss more h k t = clear_then t ss more (h t) k

-- of each value that passes a test
pub clear_each : {V : Type 0} (f : V → List Spaced) (test : V → Bool) → ((v : V) → test v ≡ true → Clear (f v)) → (vs : List V) → list_all test vs ≡ true → Clear (flat_map f vs)
clear_each f test each [] h = clear_none
clear_each f test each (v ∷ vs) h =
    let x = and_parts (test v) (list_all test vs) h in
    clear_both (f v) (flat_map f vs) (each v x.0) (clear_each f test each vs x.1)
