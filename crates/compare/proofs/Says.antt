-- What a comparison says: the forms are those that merging and numbering give, and they are equal exactly if the schedules allow the same lists.
use Rattle.std.specs.Prelude.{Ok}
use Rattle.scan.proofs.Basics.{ℕ, ◌≤◌, ◌≡◌, refl, sym, ap, ◌∙◌, List, [], ◌∷◌, ◌++◌, length, take, drop}
use mathlib.Core.Logic.Iff
use Rattle.refusal.specs.Limits.{scratch_limit}
use Rattle.net.proofs.Checks.{net-judged}
use Rattle.sequential.specs.Petri.{petri_net}
use Rattle.sequential.specs.Check.{schedule_reply}
use Rattle.sequential.proofs.Words.{words-hold, words_pass}
use Rattle.sequential.proofs.Accepted.{accepts}
use Rattle.lending.specs.Call.{CallDone, written_over}
use Rattle.lending.proofs.Done.{done-zero, written-front}
use Rattle.minimal.specs.Minimal.{minimal_form}
use Rattle.minimal.proofs.Minimal.{form-accepted, form-lists, form-quotient, form-unique, forms-equal}
use Rattle.compare.specs.Compare.{same_forms, compare_core, CompareAnswer}
use Rattle.compare.specs.Means.{Schedules, FormIn, Compares, CompareDone}
use Rattle.compare.specs.declared.Comparison.{Comparison}
use Rattle.compare.proofs.Words.{fronts-same, lists-same, fronts-written}
use Rattle.compare.proofs.Paths.{both-pass}
use Rattle.compare.proofs.Done.{compare-law}

pub reply-schedules : (net sheet : List ℕ) → schedule_reply net sheet ≡ Ok tt → Schedules net sheet
reply-schedules net sheet h =
    let a = accepts net sheet h in
    record { is_net = (net-judged net).accepts.0 a.net_accepted; words = words_pass (petri_net net) sheet a.words; schedule = a.schedule }

-- the form of a schedule in front of a buffer
form_in : (net sheet : List ℕ) → schedule_reply net sheet ≡ Ok tt → {out out' : List ℕ} → length (minimal_form net sheet) ≤ length out
    → out' ≡ written_over (minimal_form net sheet) out → FormIn net sheet out (length (minimal_form net sheet)) out'
form_in net sheet h {out} {out'} l w =
    let e : take (length (minimal_form net sheet)) out' ≡ minimal_form net sheet = rw w (written-front (minimal_form net sheet) out) in
    record {
      original = reply-schedules net sheet h;
      fits = l;
      past = w ∙ ap (λ (front : List ℕ). front ++ drop (length (minimal_form net sheet)) out) (sym e);
      schedules = rw e (reply-schedules net (minimal_form net sheet) (form-accepted net sheet h));
      lists = rw e (form-lists net sheet h);
      merges = rw e (form-quotient net sheet h);
      only = λ form s q. form-unique net sheet h form (words-hold (petri_net net) form s.words) q ∙ sym e;
    }

module _ (net x y : List ℕ) {one two s one' two' s' : List ℕ} {r : CompareAnswer}
    (d : CallDone scratch_limit (compare_core net x y) (one ∷ two ∷ []) s r (one' ∷ two' ∷ []) s') where
  pub compare-means : (found : Comparison) → r ≡ Ok found → Compares net x y one two found one' two'
  unfolding same_forms
  compare-means found e =
      let a = done-zero (compare-law net x y) d (rw e refl) in
      let (h, k) = both-pass net x y a.passed in
      let q : found ≡ record { first = length (minimal_form net x); second = length (minimal_form net y); same = same_forms net x y } = cc (e, a.reply) in
      let v : one' ≡ written_over (minimal_form net x) one = a.written 0 in
      let w : two' ≡ written_over (minimal_form net y) two = a.written 1 in
      rw q (record {
        first-form = form_in net x h (a.room 0) v;
        second-form = form_in net y k (a.room 1) w;
        lists = Iff.trans (lists-same (minimal_form net x) (minimal_form net y)) (forms-equal net x y h k);
        words = rw (← fronts-written (minimal_form net x) (minimal_form net y) one two, v, w)
            (fronts-same (written_over (minimal_form net x) one) (written_over (minimal_form net y) two) (length (minimal_form net x)) (length (minimal_form net y)));
      })

  pub compare-done : CompareDone net x y one two s r one' two' s'
  compare-done = record { call = d; means = compare-means }
