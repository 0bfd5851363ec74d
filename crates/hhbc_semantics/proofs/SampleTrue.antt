-- The sample language keeps the laws of its analysis.
use Rattle.std.proofs.Common.{◌≡◌, inl, inr, ℕ, refl, subst, false, Option, Some, None, option_map, List, [], ◌∷◌}
use Rattle.hack_values.specs.declared.cell.Cell.{Cell}
use Rattle.hack_values.specs.declared.cell.Slot.{Slot}
use Rattle.hack_values.specs.declared.cell.Slot.TheVariants as slots
use Rattle.hhbc_repo.specs.declared.body.Body.{Body}
use Rattle.hhbc_repo.specs.Linked.{Linked}
use Rattle.hhbc_repo.specs.Bodies.{body_at}
use Rattle.hhbc_semantics.specs.Setting.{with_six}
use Rattle.hhbc_semantics.specs.Frames.{World, Frame, Turn, Returns}
use Rattle.hhbc_semantics.specs.Operands.{with_cell}
use Rattle.hhbc_semantics.specs.Steps.{Config, Running, Ended, handler_in}
use Rattle.hhbc_semantics.specs.Run.{no_world}
use Rattle.hhbc_semantics.specs.Soundness.{Led, GoesWith, Laws, TrueOf}
use Rattle.hhbc_semantics.specs.Sample.{Act, Number, Nothing, Write, Call, Throw, Return, Program, act_at, fresh, call, act, Kind, Int, Any, TopIs, KindLe, Known, kind_of, ActFlows, ActThrows, ActTakes, sample, unknown, SampleIsTrue}
use Rattle.hhbc_semantics.proofs.StaysTrue.{rounds_stay_true}

top_le : (ss : List Slot) (s t : Kind) → KindLe s t → TopIs ss s → TopIs ss t
top_le [] s Any l h = tt
top_le [] Int Int l h = h
top_le [] Any Int l h = absurd l
top_le (slots.Uninit ∷ rest) s Any l h = tt
top_le (slots.Uninit ∷ rest) Int Int l h = h
top_le (slots.Uninit ∷ rest) Any Int l h = absurd l
top_le (slots.Cell c ∷ rest) s Any l h = tt
top_le (slots.Cell c ∷ rest) Int Int l h = h
top_le (slots.Cell c ∷ rest) Any Int l h = absurd l

module _ (program : Program) (r : Linked) where
  abbrev goes_with : Known → Frame → Kind → World → Turn → Type 0
  goes_with F f s w t = GoesWith r (sample program r) F f s w t

  -- the acts by the position at which they stand
  called : (F : Known) (f : Frame) (s : Kind) (w : World) (b : ℕ) (o : Option Body) → body_at r b ≡ o
      → act_at program f.body f.position ≡ Some (Call b) → goes_with F f s w (call o b w)
  called F f s w b None is at = record { fits = tt; grows = tt; takes = λ G b t h. h }
  called F f s w b (Some body) is at = record {
    fits = (
      (body, is),
      refl,
      tt,
      rw at tt,
      rw at refl,
      (λ u g t. rw (at, is) refl),
      λ c u g h. (kind_of F b, rw at (inl (refl, refl)), h, refl),
    );
    grows = tt;
    takes = λ G b t h. h;
  }

  returned : (F : Known) (f : Frame) (s : Kind) (w : World) (ss : List Slot) → act_at program f.body f.position ≡ Some Return → TopIs ss s
      → goes_with F f s w (with_cell ss w (λ c rest. Returns c w))
  returned F f s w [] at h = record { fits = tt; grows = tt; takes = λ G b t h. h }
  returned F f s w (slots.Uninit ∷ rest) at h = record { fits = tt; grows = tt; takes = λ G b t h. h }
  returned F f s w (slots.Cell c ∷ rest) at h = record { fits = rw at h; grows = tt; takes = λ G b t h. h }

  acts : (F : Known) (f : Frame) (s : Kind) (w : World) (o : Option Act) → act_at program f.body f.position ≡ o → TopIs f.stack s
      → goes_with F f s w (act r o f w)
  acts F f s w None at h = record { fits = tt; grows = tt; takes = λ G b t h. h }
  acts F f s w (Some (Number i)) at h = record { fits = (Int, rw at (refl, refl), (i, refl), refl); grows = tt; takes = λ G b t h. h }
  acts F f s w (Some Nothing) at h = record { fits = (Any, rw at (refl, refl), tt, refl); grows = tt; takes = λ G b t h. h }
  acts F f s w (Some (Write byte)) at h = record {
    fits = (s, rw at (refl, refl), h, refl);
    grows = tt;
    takes = λ G b t k e. let n : G.silent ≡ false = subst (λ o. ActTakes o G) at t in absurd (cc);
  }
  acts F f s w (Some (Call b)) at h = called F f s w b (body_at r b) refl at
  acts F f s w (Some Throw) at h = record { fits = (tt, rw at tt); grows = tt; takes = λ G b t h. h }
  acts F f s w (Some Return) at h = returned F f s w f.stack at h

  -- an exception leads to the handler
  caught_flows : (F : Known) (f : Frame) (s : Kind) (q : ℕ) (o : Option Act) → ActThrows o → handler_in (body_at r f.body) f.position ≡ Some q
      → ActFlows F f.position s (handler_in (body_at r f.body) f.position) o q Any
  caught_flows F f s q None may at = absurd may
  caught_flows F f s q (Some (Number i)) may at = absurd may
  caught_flows F f s q (Some Nothing) may at = absurd may
  caught_flows F f s q (Some (Write byte)) may at = absurd may
  caught_flows F f s q (Some (Call b)) may at = inr (at, refl)
  caught_flows F f s q (Some Throw) may at = (at, refl)
  caught_flows F f s q (Some Return) may at = absurd may

  caught_led : (F : Known) (f : Frame) (s : Kind) (w : World) (e : Cell) (g : Frame) (h : Option ℕ) → handler_in (body_at r f.body) f.position ≡ h
      → ActThrows (act_at program f.body f.position)
      → option_map (λ q. record f { position = q; stack = slots.Cell e ∷ [] }) h ≡ Some g → Led r (sample program r) F f s g w
  caught_led F f s w e g None at may is = absurd (cc)
  caught_led F f s w e g (Some q) at may is =
      let here : record f { position = q; stack = slots.Cell e ∷ [] } ≡ g = cc in
      subst (λ g. Led r (sample program r) F f s g w) here (Any, caught_flows F f s q (act_at program f.body f.position) may at, tt, refl)

  sample_laws : Laws r (sample program r)
  sample_laws = record {
    grows_itself = λ w. tt;
    holds_grows = λ f s v w g h. h;
    holds_below = λ f s t w l h. top_le f.stack s t l h;
    turns = λ F f s w shares h. acts F f s w (act_at program f.body f.position) refl h;
    catches = λ F f s w e g h raised may is. caught_led F f s w e g (handler_in (body_at r f.body) f.position) refl may is;
  }

  unknown_true : (c : Config) → TrueOf r (sample program r) unknown c
  unknown_true (Running f fs w) = (λ e. absurd (cc), λ c v is. tt)
  unknown_true (Ended o w) = λ e. absurd (cc)

pub sample_is_true : SampleIsTrue
sample_is_true program r b body is n F rounds =
    (rounds_stay_true (λ S. sample program S.repo) (with_six r) (sample_laws program r) unknown (unknown_true program r) (Running (fresh b) [] no_world)
    (refl, (body, is), refl, tt, λ G b e. refl) n F rounds).0
