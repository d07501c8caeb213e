-- A net or a sheet with too many words is answered as its first words are: the longest sheet has 8,194.
use Rattle.refusal.specs.declared.Reason.TheVariants.{ScheduleLength, ScheduleSize}
use Rattle.scan.proofs.Basics.{ℕ, ◌+◌, ◌*◌, ◌≤◌, ◌<◌, arith, ◌≡◌, sym, ap, ◌∙◌, true, false, cond, ltb, eqb, some, List, length, take}
use lib.Seq.{get_or-take, take_all, length-take-le}
use Rattle.scan.proofs.Tests.{le-ltb, ne_eqb, by_test, by_less}
use Rattle.scan.specs.Scan.{or_else, when}
use Rattle.scan.proofs.First.{or_else-hit}
use Rattle.refusal.specs.Refusal.{refusal}
use Rattle.refusal.specs.declared.Position.TheVariants.{Nothing}
use Rattle.refusal.specs.declared.Refusal.{Refusal}
use Rattle.net.proofs.Cut.{overlong, cut-reply}
use Rattle.refusal.specs.Finding.{found_by, finding}
use Rattle.sequential.specs.Petri.{PetriNet, petri_net}
use Rattle.sequential.specs.Words.{node_count, entry_count}
use Rattle.sequential.specs.Check.{sizes_pass, shape_fault, schedule_fault, schedule_reply}
use Rattle.refusal.proofs.Verdicts.{then-refused}
use Rattle.sequential.proofs.Words.{sizes↔, words-fault}

-- what more words than fit are refused by: sizes, or else the length
unfoldable overlong_fault : ℕ → ℕ → Refusal
overlong_fault v k = cond (sizes_pass v k) (refusal ScheduleLength Nothing) (refusal ScheduleSize Nothing)

module _ (N : PetriNet) (sheet : List ℕ) (l : 8195 ≤ length sheet) where
  not-whole : sizes_pass (node_count sheet) (entry_count sheet) ≡ true → eqb (length sheet) (2 + 2 * entry_count sheet) ≡ false
  not-whole h =
      let (a, b, c) = (sizes↔ (node_count sheet) (entry_count sheet)).0 h in
      ne_eqb (length sheet) (2 + 2 * entry_count sheet) (λ e. omega (arith, e, c))

  shape-overlong : shape_fault sheet ≡ some (overlong_fault (node_count sheet) (entry_count sheet))
  unfolding shape_fault finding found_by or_else when overlong_fault
  shape-overlong =
      let a : ltb (length sheet) 2 ≡ false = le-ltb (length sheet) 2 (omega arith) in
      by_test (sizes_pass (node_count sheet) (entry_count sheet)) (λ h. rw (a, h, not-whole h)) (λ h. rw (a, h))

  sheet-overlong : schedule_fault N sheet ≡ some (overlong_fault (node_count sheet) (entry_count sheet))
  unfolding schedule_fault
  sheet-overlong = or_else-hit _ _ _ (words-fault N sheet ∙ or_else-hit _ _ _ shape-overlong)

module _ (N : PetriNet) (m : ℕ) (l : 8195 ≤ m) (sheet : List ℕ) where
  cut-overlong : m < length sheet → schedule_fault N (take m sheet) ≡ schedule_fault N sheet
  cut-overlong k =
      let e : length (take m sheet) ≡ m = length-take-le m sheet (omega arith) in
      sheet-overlong N (take m sheet) (omega arith)
      ∙ rw (get_or-take m sheet 0 0 (omega arith), get_or-take m sheet 1 0 (omega arith)) (sym (sheet-overlong N sheet (omega arith)))

  cut-fault : schedule_fault N (take m sheet) ≡ schedule_fault N sheet
  cut-fault = by_less m (length sheet) cut-overlong (λ h. ap (schedule_fault N) (take_all m sheet h))

module _ (n m : ℕ) (a : 4228 ≤ n) (b : 8195 ≤ m) (net sheet : List ℕ) where
  whole-net : length net ≤ n → schedule_reply (take n net) (take m sheet) ≡ schedule_reply net sheet
  unfolding schedule_reply
  whole-net h = rw (take_all n net h, cut-fault (petri_net net) m b sheet)

  overlong-net : n < length net → schedule_reply (take n net) (take m sheet) ≡ schedule_reply net sheet
  unfolding schedule_reply
  overlong-net h =
      let e = overlong net (omega arith) in
      let c = cut-reply n a net in
      then-refused _ _ _ (c ∙ e) ∙ c ∙ sym (then-refused _ _ _ e)

  -- the first 4,228 words of a net and 8,195 of a sheet tell the answer
  pub cut-reply-both : schedule_reply (take n net) (take m sheet) ≡ schedule_reply net sheet
  cut-reply-both = by_less n (length net) overlong-net whole-net
