-- The paths of the comparison's code: a schedule is refused, a buffer is too short, or both forms are written and compared.
use Rattle.std.specs.Prelude.{Err, Ok}
use Rattle.refusal.specs.declared.Reason.TheVariants.{SmallScratch}
use Rattle.scan.proofs.Basics.{ℕ, ◌≤◌, arith, ◌≡◌, refl, sym, ap, ◌∙◌, Bool, List, [], ◌∷◌, length}
use Rattle.scan.specs.Scan.{tabulate}
use Rattle.refusal.specs.Refusal.{refusal, Verdict}
use Rattle.refusal.specs.Verdict.{verdict_of, and_then}
use Rattle.refusal.specs.declared.Position.TheVariants.{Nothing}
use Rattle.refusal.specs.declared.Refusal.{Refusal}
use Rattle.refusal.proofs.Verdicts.{then_next, then-refused, then-accepted}
use Rattle.net.specs.Check.{net_reply}
use Rattle.sequential.specs.Petri.{petri_net}
use Rattle.sequential.specs.Check.{schedule_fault, schedule_reply}
use Rattle.sequential.proofs.Accepted.{accepts}
use Rattle.graph.specs.Readable.{words_reply}
use Rattle.lending.specs.Call.{output_fault, words_verdict, written_over, written_at, scratch_fault}
use Rattle.lending.specs.Fault.{unnamed}
use Rattle.lending.proofs.Lent.{output-short, output-cases, room-two, scratch-small, scratch-lacks}
use Rattle.lending.proofs.Laws.{refused-words}
use Rattle.lending.proofs.Done.{written-length}
use Rattle.minimal.specs.Minimal.{minimal_form}
use Rattle.minimal.proofs.Done.{words-accepted}
use Rattle.minimize.specs.Both.{both_core, FormsOf}
use Rattle.minimize.specs.declared.FormLengths.{FormLengths}
use Rattle.compare.specs.Compare.{refused_by, of_schedule, about, compare_verdict, same_fronts, same_forms, compare_core, CompareWritten}
use Rattle.compare.proofs.Words.{fronts-written}

module _ (net x y : List ℕ) where
  -- ---- refused by the words

  pub first-refused : {one two : List ℕ} {r : Refusal} → schedule_reply net x ≡ Err r → CompareWritten net x y one two (refused_by r 0) one two
  unfolding compare_verdict
  first-refused {r = r} e = refused-words (then-refused _ _ r e ∙ e) (ap (λ (v : Verdict). refused_by r (about v)) (sym e))

  -- what is said of the second schedule where the net is one
  second-found : net_reply net ≡ Ok tt → schedule_reply net y ≡ verdict_of (schedule_fault (petri_net net) y)
  unfolding schedule_reply
  second-found n = then_next _ _ n

  pub both-pass : compare_verdict net x y ≡ Ok tt → (schedule_reply net x ≡ Ok tt) × (schedule_reply net y ≡ Ok tt)
  unfolding compare_verdict
  both-pass h = let (a, b) = then-accepted _ _ h in (a, second-found (accepts net x a).net_accepted ∙ b)

  module _ (a : schedule_reply net x ≡ Ok tt) where
    pub second-refused : {one two : List ℕ} {r : Refusal} → schedule_reply net y ≡ Err r → CompareWritten net x y one two (refused_by r 1) one two
    unfolding compare_verdict
    second-refused {r = r} e =
        refused-words (then_next _ _ a ∙ sym (second-found (accepts net x a).net_accepted) ∙ e) (ap (λ (v : Verdict). refused_by r (about v)) (sym a))

    -- ---- both schedules are accepted

    module _ (b : schedule_reply net y ≡ Ok tt) where
      pub both-accepted : compare_verdict net x y ≡ Ok tt
      unfolding compare_verdict
      both-accepted = then_next _ _ a ∙ sym (second-found (accepts net x a).net_accepted) ∙ b

      words-both : and_then (words_reply net x) (words_reply net y) ≡ Ok tt
      words-both = then_next _ _ (words-accepted net x a) ∙ words-accepted net y b

      -- the forms are refused or written as the comparison is
      module _ (one two : List ℕ) where
        abbrev room : Verdict
        room = output_fault (minimal_form net x ∷ minimal_form net y ∷ []) (one ∷ two ∷ [])

        forms-verdict : words_verdict (both_core net x y) (one ∷ two ∷ []) ≡ room
        unfolding words_verdict
        forms-verdict = then_next _ _ words-both

        compare-verdict : words_verdict (compare_core net x y) (one ∷ two ∷ []) ≡ room
        unfolding words_verdict
        compare-verdict = then_next _ _ both-accepted

        module _ (one' two' : List ℕ) where
          pub forms-refused : {q : Refusal} → FormsOf net x y one two (Err q) one' two' → CompareWritten net x y one two (refused_by q 1) one' two'
          forms-refused {q} d = go room refl
            where
              go : (v : Verdict) → room ≡ v → CompareWritten net x y one two (refused_by q 1) one' two'
              go (Ok tt) e = let z : ◌≡◌ {A = ℕ} 0 1 = cc (d.reply, forms-verdict, e) in absurd (omega arith)
              go (Err r) e =
                  let f : q ≡ r = cc (d.reply, forms-verdict, e) in
                  record { reply = rw (compare-verdict, e, a, f) refl; written = d.written ∙ rw (forms-verdict, compare-verdict, e) refl }

          pub forms-written : {l : FormLengths} → FormsOf net x y one two (Ok l) one' two'
              → (l ≡ record { first = length (minimal_form net x); second = length (minimal_form net y) }) × (room ≡ Ok tt)
          forms-written {l} d = go room refl
            where
              go : (v : Verdict) → room ≡ v → (l ≡ record { first = length (minimal_form net x); second = length (minimal_form net y) }) × (room ≡ Ok tt)
              go (Ok tt) e = (cc (d.reply, forms-verdict, e), e)
              go (Err r) e = let z : ◌≡◌ {A = ℕ} 0 1 = cc (d.reply, forms-verdict, e) in absurd (omega arith)

          module _ {l : FormLengths} (d : FormsOf net x y one two (Ok l) one' two') where
            both-over : (one' ≡ written_over (minimal_form net x) one) × (two' ≡ written_over (minimal_form net y) two)
            unfolding tabulate written_at
            both-over =
                let e : one' ∷ two' ∷ [] ≡ written_over (minimal_form net x) one ∷ written_over (minimal_form net y) two ∷ []
                = d.written ∙ rw (forms-verdict, (forms-written d).1) refl in
                (cc (e), cc (e))

            -- the forms lie in the buffers
            pub forms-lie : (l.first ≤ length one') × (l.second ≤ length two')
            forms-lie =
                let (q, e) = forms-written d in
                let (v, w) = both-over in
                output-cases (minimal_form net x ∷ minimal_form net y ∷ []) (one ∷ two ∷ [])
                (λ i s. let z : ◌≡◌ {A = ℕ} 0 1 = cc (e, output-short (minimal_form net x ∷ minimal_form net y ∷ []) (one ∷ two ∷ []) i s) in absurd (omega arith))
                (λ h. let (j, k) = (room-two (minimal_form net x) (minimal_form net y) one two).1 h in
                rw (q, v, w) (omega (arith, written-length (minimal_form net x) one j), omega (arith, written-length (minimal_form net y) two k)))

            pub compared : {same : Bool} → same ≡ same_fronts one' two' l.first l.second
                → CompareWritten net x y one two (Ok (record { first = l.first; second = l.second; same = same })) one' two'
            compared s =
                let (q, e) = forms-written d in
                let (v, w) = both-over in
                let alike : same_fronts one' two' l.first l.second ≡ same_forms net x y
                = rw (q, v, w) (fronts-written (minimal_form net x) (minimal_form net y) one two ∙ unfold same_forms in refl) in
                record {
                  reply = rw (compare-verdict, e, s, alike, q);
                  written = d.written ∙ rw (forms-verdict, compare-verdict) refl;
                }

-- ---- too little scratch is about no schedule

pub scratch-unnamed : (limit lent m : ℕ) {r : Refusal} → scratch_fault limit lent ≡ Err r → Err (unnamed r) ≡ refused_by r m
unfolding of_schedule
scratch-unnamed limit lent m {r} e =
    let q : r ≡ refusal SmallScratch Nothing = cc (e, scratch-small limit lent (scratch-lacks limit lent r e)) in
    rw q refl
