use Rattle.std.proofs.Common.{◌+◌, refl, ap, None}
use Rattle.hhas_lex.proofs.Following.{seen, seen-taken, seen-fails, seen-longest, seen-nothing}
use Rattle.hhas_lex.proofs.Proper.{token-proper}
use Rattle.hhas_lex.proofs.lexer.Lexer.next.Goals as goal

pub returns-in-Some-clause-token : goal.returns-in-Some-clause-token
returns-in-Some-clause-token c =
    let t = seen-taken c.self.inside.text.now c.self.inside.at c.gap_length.result c.in-Some.kind c.in-Some.count
    (seen _ _ _ c.scan.result _ c.gap_length.ensures.value c.scan.ensures.value c.in-Some.is) in
    rw (← c.self.view_is) (t.front_is, t.behind_is, refl)

pub returns-in-Some-clause-places : goal.returns-in-Some-clause-places
returns-in-Some-clause-places c =
    let t = seen-taken c.self.inside.text.now c.self.inside.at c.gap_length.result c.in-Some.kind c.in-Some.count
    (seen _ _ _ c.scan.result _ c.gap_length.ensures.value c.scan.ensures.value c.in-Some.is) in
    rw (← c.self.view_is) (t.place_is, t.places_behind)

pub returns-in-None-clause-fault : goal.returns-in-None-clause-fault
returns-in-None-clause-fault c =
    let t = seen-fails c.self.inside.text.now c.self.inside.at c.gap_length.result
    (seen _ _ _ c.scan.result _ c.gap_length.ensures.value c.scan.ensures.value c.in-None.is) in
    rw (← c.self.view_is) (t.front_is, refl)

pub returns-in-None-clause-fault_at : goal.returns-in-None-clause-fault_at
returns-in-None-clause-fault_at c =
    let s = seen c.self.inside.text.now c.self.inside.at c.gap_length.result c.scan.result None c.gap_length.ensures.value c.scan.ensures.value c.in-None.is in
    let t = seen-fails _ _ _ s in
    rw (← c.self.view_is) (ap (λ z. c.self.inside.at + z) s.gap_is, t.place_is)

pub returns-in-Some-clause-longest : goal.returns-in-Some-clause-longest
returns-in-Some-clause-longest c =
    rw (← c.self.view_is)
    (seen-longest c.self.inside.text.now c.self.inside.at c.gap_length.result c.in-Some.kind c.in-Some.count
    (seen _ _ _ c.scan.result _ c.gap_length.ensures.value c.scan.ensures.value c.in-Some.is))

pub returns-in-None-clause-none : goal.returns-in-None-clause-none
returns-in-None-clause-none c =
    rw (← c.self.view_is)
    (seen-nothing c.self.inside.text.now c.self.inside.at c.gap_length.result
    (seen _ _ _ c.scan.result _ c.gap_length.ensures.value c.scan.ensures.value c.in-None.is))

pub returns-in-Some-clause-proper : goal.returns-in-Some-clause-proper
returns-in-Some-clause-proper c =
    rw (← c.self.view_is)
    (token-proper _ _ _
    (seen-longest c.self.inside.text.now c.self.inside.at c.gap_length.result c.in-Some.kind c.in-Some.count
    (seen _ _ _ c.scan.result _ c.gap_length.ensures.value c.scan.ensures.value c.in-Some.is)))
