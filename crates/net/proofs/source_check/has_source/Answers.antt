use Rattle.scan.proofs.Basics.{arith, ◌≡◌, sym, ◌∙◌, get_or}
use Rattle.scan.proofs.Every.{any-in, any-none-yet, any-more}
use Rattle.net.specs.Net.{transition_count, has_source}
use Rattle.net.proofs.source_check.has_source.Goals as goal

pub loop-t-init : goal.loop-t-init
loop-t-init c = (omega arith, any-none-yet _)

pub is_source-requires : goal.is_source-requires
unfolding transition_count
is_source-requires c = (c.requires, c.loop-t-test.true)

pub returns-then-is_source : goal.returns-then-is_source
unfolding has_source transition_count
returns-then-is_source c = sym (any-in _ _ _ c.loop-t-test.true (sym c.is_source.ensures ∙ c.if-is_source.true))

pub loop-t-preserved : goal.loop-t-preserved
loop-t-preserved c = (omega arith, any-more _ _ c.loop-t.invariant.1 (sym c.is_source.ensures ∙ c.if-is_source.false))

pub returns : goal.returns
unfolding has_source transition_count
returns c = let e : c.loop-t.t ≡ get_or c.args.net.words.now 1 0 = omega arith in rw (← e) (sym c.loop-t.invariant.1)
