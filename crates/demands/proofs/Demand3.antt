-- Demand 3, proved: what each call writes is the minimal form, which is the one that merging and numbering give.
use Rattle.std.specs.Prelude.{Ok}
use Rattle.scan.proofs.Basics.{ℕ, ◌+◌, ◌*◌, ◌≤◌, arith, ◌≡◌, refl, sym, subst, ◌∙◌, ◌↔◌, List, [], ◌∷◌, length}
use mathlib.Core.Logic.Iff
use Rattle.refusal.specs.Limits.{most_entries}
use Rattle.sequential.specs.Check.{schedule_reply}
use Rattle.sequential.proofs.Accepted.{accepts}
use Rattle.lending.specs.Call.{CallDone}
use Rattle.lending.specs.Demands.{number}
use Rattle.lending.proofs.Lent.{room-one}
use Rattle.lending.proofs.Demands.{every-call-one}
use Rattle.minimal.specs.Minimal.{minimal_form}
use Rattle.minimal.specs.Form.{form_core, plain_form, FormAnswer}
use Rattle.minimal.proofs.Minimal.{form-accepted, form-lists, form-short, form-quotient, form-unique, forms-equal}
use Rattle.minimal.proofs.Done.{form-law}
use Rattle.demands.specs.Terms.{Accepted}
use Rattle.demands.specs.Demand3.{Merges, Form, size, made, Demand3}
use Rattle.demands.proofs.Calls.{call-zero, own-size, own-front, own-rest, own-fits}
use Rattle.demands.proofs.Checked.{accepted-reply, reply-accepted, always-accepted}

-- ---- what merging and numbering give

module _ (net sheet : List ℕ) (h : schedule_reply net sheet ≡ Ok tt) where
  pub form-merges : Merges net sheet (minimal_form net sheet)
  form-merges =
      let q = form-quotient net sheet h in
      record {
        accepted = reply-accepted net (minimal_form net sheet) (form-accepted net sheet h);
        merged = (q.number, q.quotient);
        numbered = q.breadth_first;
      }

  pub merges-form : (form : List ℕ) → Merges net sheet form → form ≡ minimal_form net sheet
  merges-form form m =
      form-unique net sheet h form (accepts net form (accepted-reply net form m.accepted)).words
      (record { number = m.merged.0; quotient = m.merged.1; breadth_first = m.numbered })

-- ---- what a call wrote

module _ (net sheet : List ℕ) (c : Form net sheet) where
  pub size-form : size c ≡ length (minimal_form net sheet)
  size-form = own-size (form-law net sheet) c.done c.zero 0 refl

  pub made-form : made c ≡ minimal_form net sheet
  made-form = own-front (form-law net sheet) c.done c.zero 0 refl

-- ---- when the call answers

-- for any limit of scratch
pub form-zero : (net sheet : List ℕ) {limit : ℕ} {out s out' s' : List ℕ} {a : FormAnswer} → CallDone limit (form_core net sheet) (out ∷ []) s a (out' ∷ []) s'
    → (number (plain_form a) ≡ 0) ↔ ((limit ≤ length s) × (schedule_reply net sheet ≡ Ok tt) × (length (minimal_form net sheet) ≤ length out))
form-zero net sheet d =
    let (f, g) = call-zero (form-law net sheet) d in
    (λ z. let (l, h, m) = f z in (l, h, m 0), λ (l, h, m). g (l, h, (room-one _ _).0 m))

-- ---- demand 3

pub form-there : (limit : ℕ) (net sheet out s : List ℕ) → Accepted net sheet → limit ≤ length s → 2 + 2 * most_entries ≤ length out
    → (c : Form net sheet) × (c.limit ≡ limit) × (c.out ≡ out) × (c.scratch ≡ s)
form-there limit net sheet out s h l m =
    let q = accepted-reply net sheet h in
    let (a, out', s', d) = (every-call-one (form-law net sheet) {limit = limit} {out = out} refl (λ p. Iff.rfl)).replies s in
    let z = (form-zero net sheet d).1 (l, q, omega (arith, form-short net sheet q)) in
    (record { limit = limit; out = out; scratch = s; answer = a; out' = out'; scratch' = s'; done = d; zero = z }, refl, refl, refl)

pub demand3 : Demand3
demand3 = record {
  equal = λ net x y hx hy a b. rw (made-form net x a, made-form net y b) (forms-equal net x y (accepted-reply net x hx) (accepted-reply net y hy));
  the_form = λ net sheet h c form.
      let q = accepted-reply net sheet h in (
        λ e. subst (Merges net sheet) (sym (e ∙ made-form net sheet c)) (form-merges net sheet q),
        λ m. merges-form net sheet q form m ∙ sym (made-form net sheet c),
      );
  accepted = λ net sheet h c. rw (made-form net sheet c) (always-accepted net (minimal_form net sheet) (form-accepted net sheet (accepted-reply net sheet h)));
  same_lists = λ net sheet h c. rw (made-form net sheet c) (form-lists net sheet (accepted-reply net sheet h));
  within = λ net sheet h c. (own-fits (form-law net sheet) c.done c.zero 0 refl, own-rest (form-law net sheet) c.done c.zero 0 refl);
  answers = λ limit net sheet out scratch out' scratch' a h l d.
      let q = accepted-reply net sheet h in
      let (f, g) = form-zero net sheet d in (
        λ z form m. rw (merges-form net sheet q form m) (f z).2,
        λ room. g (l, q, room (minimal_form net sheet) (form-merges net sheet q)),
      );
  enough = λ net sheet form h m. let q = accepted-reply net sheet h in rw (merges-form net sheet q form m) (form-short net sheet q);
  there_is = form-there;
}
