-- A word, and the mark at its end.
use Rattle.std.proofs.Common.{◌≡◌, true, ◌&&◌, [], ◌∷◌, refl, ap, Err}
use Rattle.hhas_lex.specs.Tokens.{Token}
use Rattle.hhas_lex.specs.Spelling.{is_proper}
use Rattle.hhbc_repo.specs.Languages.{Lang, Ended, Says}
use Rattle.hhas_read.specs.declared.reader.Stop.{Stop}
use Rattle.hhas_read.specs.declared.reader.Stop.TheVariants.{Syntax, NoMemory}
use Rattle.hhas_read.specs.Reading.{Placed, Past, Follow, Reads, StuckAt, Taken, any, next}
use Rattle.hhas_read.proofs.Joining.{Lawful, ended_resumes, ended_stuck, says_stuck}
use Rattle.hhas_read.proofs.Resuming.{stuck_lifts, taken_lifts}

module _ {V : Type 0} (G : Follow) (A : Lang V) (t : Token) (g : G t ≡ true) (stands : is_proper t ≡ true) where
  pub closed_stop : (old new : Placed) (e : Stop) → Reads G A old (Err e) new → Reads any (Ended A (t ∷ [])) old (Err e) new
  closed_stop old new Syntax s = ended_stuck any G A t [] g (ap (λ c. c && true) stands) old new s
  closed_stop old new NoMemory s = tt

  pub not_closed : Lawful G A → (old mid : Placed) (v : V) → Taken G A old mid v → (next mid ≡ t → ⊥) → StuckAt any (Ended A (t ∷ [])) old mid
  not_closed law old mid v k other =
      stuck_lifts any (Ended A (t ∷ [])) (Says (t ∷ []) v) old mid mid k.used (λ u. u) (ended_resumes any G A t [] g old mid v law k) k.past
      (says_stuck any t [] v mid (ap (λ c. c && true) stands) other)

  pub closed : Lawful G A → (old mid new : Placed) (v : V) → Taken G A old mid v → next mid ≡ t → Past (next mid ∷ []) mid new → Taken any (Ended A (t ∷ [])) old new v
  closed law old mid new v k is past =
      taken_lifts any (Ended A (t ∷ [])) (Says (t ∷ []) v) old mid new k.used (λ u. u) v (ended_resumes any G A t [] g old mid v law k) k.past
      (record { used = next mid ∷ []; past = past; word = (ap (λ z. z ∷ []) is, refl); follows = refl })
