use Rattle.std.proofs.Common.{ℕ, List, ◌<◌, ◌^◌, length, subst, sym}
use Rattle.hhas_read.proofs.FewParts.{few_lists, few_properties}
use Rattle.hhas_read.proofs.LinkedRead.{reads_linked}
use Rattle.hhas_read.proofs.linked_texts.read_text.Goals as goal

pub linked-requires-clause-properties : goal.linked-requires-clause-properties
linked-requires-clause-properties c =
    few_properties c.spelled_parts_are_few.ensures.properties c.bytes.result.now _ (subst (λ (l : List ℕ). length l < 2 ^ 32) (sym c.bytes.ensures) c.requires) c.in-Ok.ensures.parts

pub linked-requires-clause-lists : goal.linked-requires-clause-lists
linked-requires-clause-lists c =
    few_lists c.spelled_parts_are_few.ensures.lists c.bytes.result.now _ (subst (λ (l : List ℕ). length l < 2 ^ 32) (sym c.bytes.ensures) c.requires) c.in-Ok.ensures.parts

pub returns-in-Ok-clause-repository : goal.returns-in-Ok-clause-repository
returns-in-Ok-clause-repository c = reads_linked c.bytes.result.now c.args.text.now _ c.linked.result c.bytes.ensures c.in-Ok.ensures.parts c.linked.ensures
