-- `choice::offers::offered` meets its contract.
use Rattle.scan.proofs.Tests.{lt-ltb, le-ltb}
use Rattle.scan.proofs.Basics.{rules, sym, ◌∙◌}
use Rattle.choice.specs.Choices.{offer_from, offer_of}
use Rattle.choice.proofs.offers.offered.Goals as goal

pub first_present-t-requires : goal.first_present-t-requires
unfolding offer_of offer_from
first_present-t-requires c = search rules

pub returns-then-transitions-t : goal.returns-then-transitions-t
unfolding offer_of offer_from
returns-then-transitions-t c = rw (← c.first_present-t.ensures, le-ltb _ _ c.if-transitions-t.true)

pub offset_bounds-leaders-t : goal.offset_bounds-leaders-t
unfolding offer_of offer_from
offset_bounds-leaders-t c = search rules

pub bounds-leaders-t : goal.bounds-leaders-t
unfolding offer_of offer_from
bounds-leaders-t c = search rules

pub returns-then-c-ge-TRANSITIONS : goal.returns-then-c-ge-TRANSITIONS
unfolding offer_of offer_from
returns-then-c-ge-TRANSITIONS c = rw (← c.first_present-t.ensures, lt-ltb _ _ c.if-transitions-t.false, le-ltb _ 32 c.if-c-ge-TRANSITIONS.true)

pub are_choice-requires : goal.are_choice-requires
unfolding offer_of offer_from
are_choice-requires c = search rules

pub returns-then-are_choice : goal.returns-then-are_choice
unfolding offer_of offer_from
returns-then-are_choice c = rw (← c.first_present-t.ensures, lt-ltb _ _ c.if-transitions-t.false, lt-ltb _ 32 c.if-c-ge-TRANSITIONS.false, sym c.are_choice.ensures ∙ c.if-are_choice.true)

pub returns : goal.returns
unfolding offer_of offer_from
returns c = rw (← c.first_present-t.ensures, lt-ltb _ _ c.if-transitions-t.false, lt-ltb _ 32 c.if-c-ge-TRANSITIONS.false, sym c.are_choice.ensures ∙ c.if-are_choice.false)
