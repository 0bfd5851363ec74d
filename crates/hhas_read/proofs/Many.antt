-- Runs stand apart from what follows them, and each has one value; and how a loop reads them.
use Rattle.std.proofs.Common.{◌≡◌, true, List, [], ◌∷◌, ◌++◌, refl, sym, ap, ◌∙◌, append_assoc, append-nil, Err}
use Rattle.hhas_lex.specs.Tokens.{Token, front}
use Rattle.hhbc_repo.specs.Languages.{Lang, Both}
use Rattle.hhas_read.specs.declared.reader.Stop.{Stop}
use Rattle.hhas_read.specs.Reading.{Placed, Past, Follow, Reads, Taken, Viable, next}
use Rattle.hhas_read.proofs.Resuming.{Resumes, cancel, past_none, past_on, resumes_same, resumes_then, stop_lifts}
use Rattle.hhas_read.proofs.Joining.{Lawful, LeadsOn, both_resumes, both_stop}
use Rattle.hhas_read.proofs.Following.{Avoids}
use Rattle.hhas_read.proofs.Runs.{Run, first_of, run_ends, run_next, run_none, run_some, run_split}

-- no word of B begins with a token that a word of A begins with
abbrev pub Apart : {V W : Type 0} → Follow → Follow → Lang V → Lang W → Type 0
Apart {V} F G A B = (w : List Token) (v : V) (x : List Token) → A w v → G (front x) ≡ true → Avoids F B (front (w ++ x))

module _ {V W : Type 0} (F G : Follow) (A : Lang V) (B : Lang W) (leads : LeadsOn F (Run A B) G) (law : Lawful G A) (laws : Lawful F B) (apart : Apart F G A B) where
  -- one run has one more, and the other none
  never_more : (a b x y : List Token) (v : V) (vs : List V) (u w : W) → Run A B a (v ∷ vs, u) → Run A B b ([], w)
      → F (front x) ≡ true → F (front y) ≡ true → a ++ x ≡ b ++ y → ⊥
  never_more a b x y v vs u w n m o p e =
      let s = run_split A B a v vs u n in
      apart s.first v (s.second ++ x) s.left (leads s.second (vs, u) x s.right o) b w y (run_none A B b w m) p
      (ap front (sym e ∙ ap (λ l. l ++ x) s.tokens ∙ append_assoc s.first s.second x))

  run_same : (vs ws : List V) (a b x y : List Token) (u w : W) → Run A B a (vs, u) → Run A B b (ws, w)
      → F (front x) ≡ true → F (front y) ≡ true → a ++ x ≡ b ++ y → (a ≡ b) × ◌≡◌ {A = List V × W} (vs, u) (ws, w)
  run_same [] [] a b x y u w n m o p e =
      let s = laws.same a b x y u w (run_none A B a u n) (run_none A B b w m) o p e in (s.0, λ i. ([], s.1 i))
  run_same [] (w ∷ ws) a b x y u z n m o p e = absurd (never_more b a y x w ws z u m n p o (sym e))
  run_same (v ∷ vs) [] a b x y u z n m o p e = absurd (never_more a b x y v vs u z n m o p e)
  run_same (v ∷ vs) (w ∷ ws) a b x y u z n m o p e =
      let s = run_split A B a v vs u n in
      let t = run_split A B b w ws z m in
      let joined = sym (append_assoc s.first s.second x) ∙ ap (λ l. l ++ x) (sym s.tokens) ∙ e ∙ ap (λ l. l ++ y) t.tokens ∙ append_assoc t.first t.second y in
      let one = law.same s.first t.first (s.second ++ x) (t.second ++ y) v w s.left t.left (leads s.second (vs, u) x s.right o) (leads t.second (ws, z) y t.right p) joined in
      let rest : s.second ++ x ≡ t.second ++ y = cancel t.first _ _ (ap (λ l. l ++ (s.second ++ x)) (sym one.0) ∙ joined) in
      let two = run_same vs ws s.second t.second x y u z s.right t.right o p rest in
      (s.tokens ∙ (λ i. one.0 i ++ two.0 i) ∙ sym t.tokens, λ i. (one.1 i ∷ (two.1 i).0, (two.1 i).1))

  pub run_lawful : Lawful F (Run A B)
  run_lawful = record { same = λ a b x y v w n m o p e. run_same v.0 w.0 a b x y v.1 w.1 n m o p e; some = run_some A B laws.some }

-- ---- the loop that reads a run, of which some was read

module _ {V W U : Type 0} (F : Follow) (A : Lang V) (B : Lang W) (N : Lang U) (f : List V × W → U) where
  -- what behind the first ones is a run stands for the whole
  abbrev pub behind : List V → List V × W → U
  behind vs p = f (vs ++ p.0, p.1)

  -- the first ones were taken
  abbrev pub RunTaken : Placed → Placed → List V → Type 0
  RunTaken start now vs = (used : List Token) × Past used start now × Resumes F N used (Run A B) (behind vs) now.tokens

  pub none_taken : (start : Placed) → Resumes F N [] (Run A B) f start.tokens → RunTaken start start []
  none_taken start r = ([], past_none start, r)

  next_one : (start old : Placed) (vs : List V) → (inv : RunTaken start old vs) → Avoids F B (next old)
      → Resumes F N (inv.0 ++ []) (Both A (Run A B)) (λ p. behind vs (first_of A B p)) old.tokens
  next_one start old vs inv never =
      resumes_then F N (Run A B) (Both A (Run A B)) inv.0 [] old.tokens old.tokens (behind vs) (first_of A B) inv.2 (run_next F A B old.tokens never) refl

  module _ (G : Follow) (leads : LeadsOn F (Run A B) G) where
    -- one more was taken
    pub one_taken : Lawful G A → (start old mid : Placed) (vs more : List V) (v : V) → RunTaken start old vs → Avoids F B (next old) → Taken G A old mid v
        → more ≡ vs ++ v ∷ [] → RunTaken start mid more
    one_taken law start old mid vs more v inv never t pushed =
        let step = resumes_then F N (Both A (Run A B)) (Run A B) (inv.0 ++ []) t.used old.tokens mid.tokens (λ p. behind vs (first_of A B p)) (λ p. (v, p))
        (next_one start old vs inv never) (both_resumes F G A (Run A B) leads old mid v law t) t.past.tokens in (
          (inv.0 ++ []) ++ t.used,
          past_on (past_on inv.1 (past_none old)) t.past,
          resumes_same F N (Run A B) ((inv.0 ++ []) ++ t.used) mid.tokens (λ p. behind vs (v ∷ p.0, p.1)) (behind more)
              (λ p. ap (λ l. f (l, p.1)) (sym (ap (λ l. l ++ p.0) pushed ∙ append_assoc vs (v ∷ []) p.0))) step,
        )

    -- one goes wrong
    pub one_stops : (start old new : Placed) (vs : List V) (e : Stop) → Viable B [] → RunTaken start old vs → Avoids F B (next old) → Reads G A old (Err e) new
        → Reads F N start (Err e) new
    one_stops start old new vs e some inv never s =
        stop_lifts F N (Both A (Run A B)) start old new (inv.0 ++ []) (λ p. behind vs (first_of A B p)) e (next_one start old vs inv never)
        (past_on inv.1 (past_none old)) (both_stop F G A (Run A B) leads old new e (run_some A B some) s)

    -- none is left
    pub last_next : (start old : Placed) (vs : List V) → RunTaken start old vs → Avoids G A (next old)
        → (used : List Token) × Past used start old × Resumes F N used B (λ b. f (vs, b)) old.tokens
    last_next start old vs inv never =
        let step = resumes_then F N (Run A B) B inv.0 [] old.tokens old.tokens (behind vs) (λ b. ([], b)) inv.2 (run_ends F G A B leads old.tokens never) refl in (
          inv.0 ++ [],
          past_on inv.1 (past_none old),
          resumes_same F N B (inv.0 ++ []) old.tokens (λ b. behind vs ([], b)) (λ b. f (vs, b)) (λ b. ap (λ l. f (l, b)) (append-nil vs)) step,
        )
