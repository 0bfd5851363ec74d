use Rattle.std.proofs.Common.{◌≤◌, ◌≡◌, sym, ap, arith, ◌∙◌}
use Rattle.hh_io.specs.Counts.{last_count}
use Rattle.hh_io.specs.Memory.{Supply, certain_calls}
use Rattle.hh_io.proofs.Certain.{certain_next, none_certain}
use Rattle.hh_io.proofs.Fronts.{copy_consumes}
use Rattle.hh_io.proofs.memory.MemSourceSource.read.Goals as goal

pub returns-clause-bytes : goal.returns-clause-bytes
returns-clause-bytes c =
    let copy = c.copy_from-count.ensures in
    copy_consumes _ _ _ _ _ _ _ (ap (λ (s : Supply). s.left) (sym c.self.view_is)) c.bytes.ensures copy.count copy.copied c.copy_from-count.auto.buf

pub returns-then-listed-clause-sound : goal.returns-then-listed-clause-sound
returns-then-listed-clause-sound c =
    let within : c.self.inside.calls ≤ last_count = omega arith in
    let same_list = ap (λ (s : Supply). s.failing) (sym c.self.view_is) in
    let same_call = ap (λ (s : Supply). s.calls) (sym c.self.view_is) in
    let none : certain_calls c.self.inside.failing c.self.inside.calls ≡ 0 = none_certain c.self.inside.failing c.self.inside.calls (sym c.is_in-listed.ensures ∙ c.if-listed.true) in
    record {
      fewer = certain_next _ _ _ _ _ same_list same_call within c.saturating_add-self-inside.ensures;
      held = ap (λ (s : Supply). certain_calls s.failing s.calls) (sym c.self.view_is) ∙ none;
    }

pub returns-clause-sound : goal.returns-clause-sound
returns-clause-sound c =
    let within : c.self.inside.calls ≤ last_count = omega arith in
    let same_list = ap (λ (s : Supply). s.failing) (sym c.self.view_is) in
    let same_call = ap (λ (s : Supply). s.calls) (sym c.self.view_is) in
    record { fewer = certain_next _ _ _ _ _ same_list same_call within c.saturating_add-self-inside.ensures; held = tt }
