use Rattle.std.proofs.Common.{refl}
use Rattle.hhas_read.specs.LeafSyntax.{KeyAndLeaf, KeyTo, LeafTo}
use Rattle.hhas_read.specs.Reading.{any}
use Rattle.hhas_read.proofs.Apart.{to_key, to_leaf}
use Rattle.hhas_read.proofs.Joining.{both_resumes, both_stop}
use Rattle.hhas_read.proofs.Resuming.{stop_lifts, taken_lifts}
use Rattle.hhas_read.proofs.reader.Reader.key_and_leaf.Goals as goal

pub returns-in-Ok-closed_leaf : goal.returns-in-Ok-closed_leaf
returns-in-Ok-closed_leaf c =
    let old = c.args.self.now in let mid = c.key_to.new.self in let k = c.in-Ok.ensures in
    taken_lifts any KeyAndLeaf LeafTo old mid c.closed_leaf.new.self k.used (λ b. (c.in-Ok.key, b)) c.in-Ok-closed_leaf.leaf
    (both_resumes any any (KeyTo 44) LeafTo (λ b v x n o. refl) old mid c.in-Ok.key (to_key 44 refl refl) k) k.past c.in-Ok-closed_leaf.ensures

pub returns-in-Err-closed_leaf : goal.returns-in-Err-closed_leaf
returns-in-Err-closed_leaf c =
    let old = c.args.self.now in let mid = c.key_to.new.self in let k = c.in-Ok.ensures in
    stop_lifts any KeyAndLeaf LeafTo old mid c.closed_leaf.new.self k.used (λ b. (c.in-Ok.key, b)) c.in-Err-closed_leaf.stop
    (both_resumes any any (KeyTo 44) LeafTo (λ b v x n o. refl) old mid c.in-Ok.key (to_key 44 refl refl) k) k.past c.in-Err-closed_leaf.ensures

pub returns-in-Err : goal.returns-in-Err
returns-in-Err c = both_stop any any (KeyTo 44) LeafTo (λ b v x n o. refl) c.args.self.now c.key_to.new.self c.in-Err.stop to_leaf.some c.in-Err.ensures
