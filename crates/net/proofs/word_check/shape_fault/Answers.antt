-- `net::word_check::shape_fault` meets its contract.
use Rattle.scan.proofs.Basics.{arith, sym, ◌∙◌}
use Rattle.scan.proofs.Tests.{lt-ltb, le-ltb, eq-eqb, ne_eqb}
use Rattle.scan.specs.Scan.{or_else, when}
use Rattle.net.specs.Net.{place_count, transition_count, weight_count}
use Rattle.refusal.specs.Finding.{found_by, finding}
use Rattle.net.specs.Check.{shape_fault}
use Rattle.net.proofs.word_check.shape_fault.Goals as goal

pub returns-then-net-lt3 : goal.returns-then-net-lt3
unfolding shape_fault finding found_by or_else when
returns-then-net-lt3 c = c.refuse.ensures ∙ rw (lt-ltb _ _ c.if-net-lt3.true)

pub returns-then-not-sizes_pass : goal.returns-then-not-sizes_pass
unfolding shape_fault finding found_by or_else when place_count transition_count weight_count
returns-then-not-sizes_pass c = c.refuse-then-not-sizes_pass.ensures ∙ rw (le-ltb _ _ c.if-net-lt3.false, sym c.sizes_pass.ensures ∙ c.if-not-sizes_pass.true)

pub overflow_cast-entries : goal.overflow_cast-entries
overflow_cast-entries c = omega (arith, c.shared_slice_known-1.given 2)

pub overflow_mul-entries : goal.overflow_mul-entries
overflow_mul-entries c = omega (arith, c.shared_slice_known-1.given 2)

pub overflow_add-entries : goal.overflow_add-entries
overflow_add-entries c = omega (arith, c.shared_slice_known-1.given 2)

pub returns-then-net-entries : goal.returns-then-net-entries
unfolding shape_fault finding found_by or_else when place_count transition_count weight_count
returns-then-net-entries c =
    c.refuse-then-net-entries.ensures ∙ rw (
      le-ltb _ _ c.if-net-lt3.false,
      sym c.sizes_pass.ensures
          ∙ c.if-not-sizes_pass.false,
      ne_eqb _ _ c.if-net-entries.true,
    )

pub returns : goal.returns
unfolding shape_fault finding found_by or_else when place_count transition_count weight_count
returns c = rw (le-ltb _ _ c.if-net-lt3.false, sym c.sizes_pass.ensures ∙ c.if-not-sizes_pass.false, eq-eqb _ _ c.if-net-entries.false)
