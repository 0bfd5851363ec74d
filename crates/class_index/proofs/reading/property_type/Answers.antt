use Rattle.std.proofs.Common.{◌∙◌, ◌+◌, ◌≤◌, ℕ, subst, sym, ap, drop}
use Rattle.hhbc_repo.proofs.Borne.{none_left}
use Rattle.class_index.specs.Named.{key_names}
use Rattle.class_index.specs.Reached.{borne, gathered}
use Rattle.class_index.proofs.Joining.{drop_at, gathered_end, gathered_start}
use Rattle.class_index.proofs.reading.property_type.Goals as goal

pub loop-at-preserved : goal.loop-at-preserved
loop-at-preserved c =
    let names = key_names c.args.key.now in
    let qs = borne c.args.repo.now names in
    c.with_property-all.ensures (drop (c.loop-at.at + 1) qs)
    ∙ ap (gathered c.args.repo.now c.args.facts.now.props c.args.part names c.loop-at.all) (sym (drop_at qs c.loop-at.at c.property_borne.result c.property_borne.ensures.value))
    ∙ c.loop-at.invariant

pub returns : goal.returns
returns c =
    let names = key_names c.args.key.now in
    let qs = borne c.args.repo.now names in
    sym (gathered_end c.args.repo.now c.is_sound.ensures.sound c.args.facts.now.props c.args.part names c.loop-at.all)
    ∙ ap (gathered c.args.repo.now c.args.facts.now.props c.args.part names c.loop-at.all) (sym (none_left c.loop-at.at qs (subst (λ (n : ℕ). n ≤ c.loop-at.at) c.count_borne-at-end.ensures c.loop-at-test.false)))
    ∙ c.loop-at.invariant
    ∙ gathered_start c.args.repo.now c.is_sound.ensures.sound c.args.facts.now.props c.args.part names
