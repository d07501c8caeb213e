-- No number that is printed has more than ten digits, so that the longest text has room.
use Rattle.std.specs.Prelude.{Err, Ok}
use Rattle.scan.proofs.Basics.{ℕ, zero, suc, ◌+◌, ◌-◌, ◌≤◌, ◌<◌, arith, ◌≡◌, refl, ⊎_elim, Bool, true, false, ltb, List, [], ◌∷◌, ◌++◌, length, get_or}
use Prim.Native.Nat.{◌^◌}
use native.Mathlib.Nat.{mul-le-mul}
use Rattle.scan.proofs.Tests.{ltb-true, ltb-false, by_test}
use Rattle.text.proofs.Longest.{Short, AllShort}
use Rattle.table.specs.Table.{key_at, value_at}
use Rattle.refusal.specs.Refusal.{refusal, kind_of, index_of, refusal_number}
use Rattle.refusal.specs.Checks.{Clause, Check, once, each, Passes, FailAt, FirstFails}
use Rattle.refusal.specs.declared.Position.{Position}
use Rattle.refusal.specs.declared.Refusal.{Refusal}
use Rattle.refusal.specs.declared.Reason.{Reason}
use Rattle.refusal.specs.declared.Reason.TheVariants.{NetLength, ScheduleLength}
use Rattle.refusal.proofs.Checks.{◌▸◌}
use Rattle.refusal.proofs.Reasons.{reason-few}
use Rattle.net.specs.Checks.{net_checks}
use Rattle.sequential.specs.Petri.{PetriNet, petri_net}
use Rattle.sequential.specs.Words.{node_count, entry_count, entry_key, entry_value, arc_keys, key_limit}
use Rattle.sequential.specs.Checks.{sheet_checks}
use Rattle.sequential.specs.Known.{WordsHold}
use Rattle.sequential.specs.Check.{schedule_reply}
use Rattle.sequential.proofs.Accepted.{schedule-judged}
use Rattle.net.specs.Check.{net_reply}
use Rattle.refusal.specs.declared.Position.TheVariants.{Nothing}
use Rattle.refusal.proofs.Verdicts.{then-cases}
use Rattle.scan.proofs.Count.{count-le}
use Rattle.scan.proofs.Greatest.{greatest-attained}
use Rattle.scan.proofs.Tabulate.{tabulate-at, tabulate-length}
use Rattle.text.specs.Lines.{accepted_lines}
use Rattle.text.proofs.Longest.{answer-length, accepted-length}
use Rattle.sequential.specs.Words.{is_arc, graph}
use Rattle.sequential.specs.Tests.{is_await}
use Rattle.sequential.specs.Check.{arc_count, await_count}
use Rattle.sequential.specs.Bounds.{held_at, bound, bounds}
use Rattle.sequential.proofs.Entries.{count_most}
use Rattle.sequential.proofs.Accepted.{accepts}
use Rattle.sequential.proofs.Bounds.{bounds-length}
use Rattle.graph.specs.Readable.{Sizes}
use Rattle.graph.proofs.Readable.{known}
use Rattle.judge.specs.Answer.{counts_of, CheckAnswer}
use Rattle.judge.proofs.Judged.{accepted-readable}
use Rattle.minimal.specs.Minimal.{minimal_form}
use Rattle.minimal.proofs.Minimal.{form-accepted, form-short}
use Rattle.octets.specs.Words.{is_ragged, words_of}
use Rattle.files.specs.Words.{net_read, sheet_read}
use Rattle.files.specs.Program.{tail_reply, read_reply, read_answer, files_answer, program_answer}
use Rattle.files.specs.Printed.{refused_text, text_of, printed, text_most}
use Rattle.octets.proofs.Decoding.{words-length, count_fits}
use Rattle.files.proofs.Replies.{check-failed, read-passed}

-- ---- a refusal: the numbers of reasons are small, so that it is the index that has to be

-- the indices are below a size that is limited where the checks before pass, and a position tells its index
abbrev ShortIndices : Type 0 → List Check → Type 0
ShortIndices H [] = Unit
ShortIndices H (once P reason ∷ cs) = ShortIndices (H × P) cs
ShortIndices H (each size at clauses ∷ cs) = ((H → Short size) × ((i : ℕ) → index_of (at i) ≡ i)) × ShortIndices (H × Passes (each size at clauses)) cs

at-short : (at : ℕ → Position) (cs : List Clause) (i : ℕ) (r : Refusal) → Short i → index_of (at i) ≡ i → FailAt at cs i r → Short (index_of r.at)
at-short at [] i r l e f = absurd f
at-short at (c ∷ cs) i r l e f = ⊎_elim (λ (m, q). rw (q, e) l) (λ (p, g). at-short at cs i r l e g) f

fails-short : (H : Type 0) (cs : List Check) (r : Refusal) → H → ShortIndices H cs → FirstFails cs r → Short (index_of r.at)
fails-short H [] r h s f = absurd f
fails-short H (once P reason ∷ cs) r h s f = ⊎_elim (λ (x, e). rw e (omega arith)) (λ (p, g). fails-short (H × P) cs r (h, p) s g) f
fails-short H (each size at clauses ∷ cs) r h ((l, e), s) f =
    ⊎_elim (λ k. at-short at clauses k.index r (omega (arith, k.within, l h)) (e _) k.there) (λ (p, g). fails-short _ cs r (h, p) s g) f

checks-short : (net sheet : List ℕ) → length net ≤ 10 ^ 9 → ShortIndices Unit (net_checks net ++ sheet_checks (petri_net net) sheet)
checks-short net sheet l =
    (λ h. omega arith, λ i. refl) ▸ (λ h. omega arith, λ i. refl) ▸ (λ h. omega arith, λ i. refl)
    ▸ (λ h. omega arith, λ i. refl) ▸ (λ h. omega arith, λ i. refl) ▸ (λ h. omega arith, λ i. refl)
    ▸ (λ h. omega arith, λ i. refl) ▸ (λ h. omega arith, λ i. refl) ▸ (λ h. omega arith, λ i. refl) ▸ tt

-- ---- the words of a schedule that 6 to 9 do not refuse

words-short : (N : PetriNet) (sheet : List ℕ) → N.transitions ≤ 32 → N.places ≤ 32 → WordsHold N sheet → AllShort sheet
unfolding entry_key entry_value key_limit key_at value_at
words-short N sheet t p w zero l = omega (arith, w.arcs.shape.few_nodes)
words-short N sheet t p w (suc zero) l = omega (arith, w.arcs.shape.few_entries)
words-short N sheet t p w (suc (suc i)) l =
    let e : suc (suc i) ≡ 2 + i = omega arith in
    let few : N.transitions + N.places ≤ 64 = omega arith in
    rw e (by_test (ltb i (get_or sheet 1 0)) (λ m. omega (arith, (w.arcs.keys i (ltb-true _ _ m)).low, mul-le-mul w.arcs.shape.few_nodes few)) (λ m. behind (ltb-false _ _ m)))
  where
    value : (j : ℕ) → j < get_or sheet 1 0 → Short (get_or sheet (2 + get_or sheet 1 0 + j) 0)
    value j m =
        by_test (ltb (get_or sheet (2 + j) 0) (arc_keys N sheet)) (λ e. omega (arith, (w.values j m).target (ltb-true _ _ e), w.arcs.shape.few_nodes))
        (λ e. omega (arith, (w.values j m).most (ltb-false _ _ e)))

    behind : get_or sheet 1 0 ≤ i → Short (get_or sheet (2 + i) 0)
    behind m =
        let q : 2 + i ≡ 2 + get_or sheet 1 0 + (i - get_or sheet 1 0) = omega arith in
        rw q (value (i - get_or sheet 1 0) (omega (arith, w.arcs.shape.whole)))

-- ---- all that is printed

tail-short : (b : Bool) (reason : Reason) (r : Refusal) → tail_reply b reason ≡ Err r → Short (index_of r.at)
tail-short true reason r e = let q : refusal reason Nothing ≡ r = cc in rw (← q) (omega arith)
tail-short false reason r e = let z : ◌≡◌ {A = ℕ} 0 1 = cc in absurd (omega arith)

-- the net is asked twice where there is no tail
refused-short : (a b : Bool) (net sheet : List ℕ) (r : Refusal) → length net ≤ 10 ^ 9 → read_reply a b net sheet ≡ Err r → Short (index_of r.at)
unfolding read_reply schedule_reply
refused-short a b net sheet r l e =
    ⊎_elim (tail-short a NetLength r)
    (λ (p, e). ⊎_elim (λ n. fails (rw n))
    (λ (q, e). ⊎_elim (tail-short b ScheduleLength r) (λ (t, e). fails e) (then-cases (tail_reply b ScheduleLength) (schedule_reply net sheet) r e)) (then-cases (net_reply net) _ r e))
    (then-cases (tail_reply a NetLength) _ r e)
  where
    fails : schedule_reply net sheet ≡ Err r → Short (index_of r.at)
    fails f = fails-short Unit (net_checks net ++ sheet_checks (petri_net net) sheet) r tt (checks-short net sheet l) (((schedule-judged net sheet).refuses r).0 f)

-- the numbers of an accepted schedule
module _ (net sheet : List ℕ) (h : schedule_reply net sheet ≡ Ok tt) where
  abbrev N : PetriNet
  N = petri_net net

  sized : Sizes net sheet
  sized = known net sheet (accepted-readable net sheet h)

  bound-short : (p : ℕ) → Short (bound N sheet p)
  unfolding bound held_at
  bound-short p =
      let (n, l, e) = greatest-attained (held_at N sheet p) (node_count sheet) (omega (arith, sized.some_node)) in
      omega (arith, e, count_most N sheet (accepts net sheet h).words n p)

  bounds-short : AllShort (bounds N sheet)
  unfolding bounds
  bounds-short p l = rw (tabulate-at (bound N sheet) 0 N.places p (omega (arith, tabulate-length (bound N sheet) N.places))) (bound-short p)

  form-words-short : AllShort (minimal_form net sheet)
  form-words-short = words-short N (minimal_form net sheet) sized.few_transitions sized.few_places (accepts net (minimal_form net sheet) (form-accepted net sheet h)).words

  accepted-fits : length (accepted_lines (counts_of net sheet).nodes (counts_of net sheet).arcs (counts_of net sheet).awaits (bounds N sheet) (minimal_form net sheet)) ≤ text_most
  unfolding counts_of arc_count await_count
  accepted-fits =
      let p = bounds-length N sheet in
      let v = sized.few_nodes in
      let few = accepted-length (counts_of net sheet).nodes (counts_of net sheet).arcs (counts_of net sheet).awaits (bounds N sheet) (minimal_form net sheet)
      (omega arith) (omega (arith, count-le (is_arc N sheet) (entry_count sheet), sized.few_entries)) (omega (arith, count-le (is_await N (graph N sheet)) (node_count sheet)))
      (omega (arith, sized.few_places)) bounds-short form-words-short in
      omega (arith, few, sized.few_places, form-short net sheet h)

text-fits : (answer : CheckAnswer) (a b : Bool) (net sheet : List ℕ) → length net ≤ 10 ^ 9 → read_answer a b net sheet ≡ answer → length (text_of answer net sheet) ≤ text_most
unfolding read_answer text_of refused_text
text-fits (Err r) a b net sheet l e =
    let i = refused-short a b net sheet r l (check-failed (read_reply a b net sheet) (counts_of net sheet) r e) in
    omega (arith, answer-length (refusal_number r) (kind_of r.at) (index_of r.at) (omega (arith, reason-few r.reason)) i)
text-fits (Ok c) a b net sheet l e = let (h, q) = read-passed a b net sheet c e in rw (← q) (accepted-fits net sheet h)

pub printed-fits : (net sheet : List ℕ) → length (printed net sheet) ≤ text_most
unfolding files_answer program_answer printed
printed-fits net sheet =
    text-fits (program_answer net sheet) (is_ragged net_read net) (is_ragged sheet_read sheet) (words_of net_read net) (words_of sheet_read sheet)
    (omega (arith, words-length net_read net, (count_fits net_read net).0)) refl
