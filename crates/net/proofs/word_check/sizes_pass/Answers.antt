-- `net::word_check::sizes_pass` meets its contract.
use Rattle.scan.proofs.Tests.{le-leb, lt-leb}
use Rattle.net.specs.Check.{sizes_pass}
use Rattle.net.proofs.word_check.sizes_pass.Goals as goal

pub returns-then-places-lt1 : goal.returns-then-places-lt1
returns-then-places-lt1 c = unfold sizes_pass in (simp (lt-leb _ _ c.if-places-lt1.true))

pub returns-then-places-gt-PLACES : goal.returns-then-places-gt-PLACES
returns-then-places-gt-PLACES c = unfold sizes_pass in (simp (le-leb _ _ c.if-places-lt1.false, lt-leb _ _ c.if-places-gt-PLACES.true))

pub returns-then-transitions-lt1 : goal.returns-then-transitions-lt1
returns-then-transitions-lt1 c = unfold sizes_pass in (simp (le-leb _ _ c.if-places-lt1.false, le-leb _ _ c.if-places-gt-PLACES.false, lt-leb _ _ c.if-transitions-lt1.true))

pub returns-then-transitions-gt-TRANSITIONS : goal.returns-then-transitions-gt-TRANSITIONS
unfolding sizes_pass
returns-then-transitions-gt-TRANSITIONS c = simp (
  le-leb _ _ c.if-places-lt1.false,
  le-leb _ _ c.if-places-gt-PLACES.false,
  le-leb _ _ c.if-transitions-lt1.false,
  lt-leb _ _ c.if-transitions-gt-TRANSITIONS.true,
)

pub returns : goal.returns
unfolding sizes_pass
returns c = simp (
  le-leb _ _ c.if-places-lt1.false,
  le-leb _ _ c.if-places-gt-PLACES.false,
  le-leb _ _ c.if-transitions-lt1.false,
  le-leb _ _ c.if-transitions-gt-TRANSITIONS.false,
  c.key_count.ensures,
)
