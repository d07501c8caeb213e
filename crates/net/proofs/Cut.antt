-- A net with too many words is answered as its first words are: the longest net has 4,227.
use Rattle.std.specs.Prelude.{Err}
use Rattle.refusal.specs.declared.Reason.TheVariants.{NetLength, NetSize}
use Rattle.scan.proofs.Basics.{ℕ, ◌+◌, ◌*◌, ◌≤◌, ◌<◌, arith, ◌≡◌, sym, ap, ◌∙◌, true, false, cond, ltb, leb, eqb, some, List, length, take}
use lib.Seq.{get_or-take, take_all, length-take-le}
use Rattle.scan.proofs.Tests.{le-ltb, leb-true, leb-false, ne_eqb, by_test}
use Rattle.scan.specs.Scan.{or_else, when}
use Rattle.scan.proofs.First.{or_else-hit}
use Rattle.refusal.specs.Refusal.{refusal}
use Rattle.net.specs.Net.{place_count, transition_count, weight_count}
use Rattle.refusal.specs.Finding.{found_by, finding}
use Rattle.net.specs.Check.{sizes_pass, shape_fault, net_reply}
use Rattle.refusal.specs.Verdict.{verdict_of}
use Rattle.refusal.specs.declared.Position.TheVariants.{Nothing}
use Rattle.refusal.specs.declared.Refusal.{Refusal}
use Rattle.net.proofs.Shape.{sizes-out, limit-high}
use Rattle.net.proofs.Checks.{net-fault}

-- what more words than fit are refused by: sizes, or else the length
unfoldable pub overlong_fault : ℕ → ℕ → ℕ → Refusal
overlong_fault p t k = cond (sizes_pass p t k) (refusal NetLength Nothing) (refusal NetSize Nothing)

module _ (net : List ℕ) (l : 4228 ≤ length net) where
  not-whole : sizes_pass (place_count net) (transition_count net) (weight_count net) ≡ true → eqb (length net) (3 + 2 * weight_count net) ≡ false
  not-whole h =
      let s = sizes-out net h in
      let m = limit-high net s in
      ne_eqb (length net) (3 + 2 * weight_count net) (λ e. omega (arith, e, m, s.few_entries))

  shape-overlong : shape_fault net ≡ some (overlong_fault (place_count net) (transition_count net) (weight_count net))
  unfolding shape_fault finding found_by or_else when overlong_fault
  shape-overlong =
      let a : ltb (length net) 3 ≡ false = le-ltb (length net) 3 (omega arith) in
      by_test (sizes_pass (place_count net) (transition_count net) (weight_count net)) (λ h. rw (a, h, not-whole h)) (λ h. rw (a, h))

  pub overlong : net_reply net ≡ Err (overlong_fault (place_count net) (transition_count net) (weight_count net))
  unfolding net_reply
  overlong = ap verdict_of (net-fault net ∙ or_else-hit _ _ _ shape-overlong)

module _ (n : ℕ) (l : 4228 ≤ n) (net : List ℕ) where
  cut-overlong : n < length net → net_reply (take n net) ≡ net_reply net
  unfolding place_count transition_count weight_count
  cut-overlong m =
      let e : length (take n net) ≡ n = length-take-le n net (omega arith) in
      overlong (take n net) (omega arith)
      ∙ rw (get_or-take n net 0 0 (omega arith), get_or-take n net 1 0 (omega arith), get_or-take n net 2 0 (omega arith)) (sym (overlong net (omega arith)))

  -- the first 4,228 words tell the answer
  pub cut-reply : net_reply (take n net) ≡ net_reply net
  cut-reply =
      by_test (leb (length net) n) (λ h. ap net_reply (take_all n net (leb-true (length net) n h))) (λ h. cut-overlong (leb-false (length net) n h))
