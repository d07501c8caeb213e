-- A check that answered 0: what it says of the net and of the schedule, and that there is one.
use Rattle.std.specs.Prelude.{Ok}
use Rattle.scan.proofs.Basics.{ℕ, ◌≤◌, arith, ◌≡◌, refl, ◌↔◌, List, [], length, replicate, length-replicate}
use Rattle.refusal.specs.Limits.{scratch_limit}
use Rattle.net.specs.Checks.{IsNet}
use Rattle.net.proofs.Checks.{net-judged}
use Rattle.sequential.specs.Petri.{petri_net}
use Rattle.sequential.specs.Schedule.{IsSchedule}
use Rattle.sequential.specs.Checks.{WordsPass}
use Rattle.sequential.specs.Check.{schedule_reply}
use Rattle.sequential.proofs.Words.{words-hold, words_pass}
use Rattle.sequential.proofs.Accepted.{accepted-exactly}
use Rattle.judge.specs.Answer.{plain_check, CheckAnswer}
use Rattle.lending.specs.Demands.{number}
use Rattle.lending.proofs.Demands.{every-call-none}
use Rattle.lending.specs.Call.{CallDone}
use Rattle.schedule.specs.Calls.{check_core, CheckWithinDone}
use Rattle.schedule.proofs.Done.{check-law}
use Rattle.demands.specs.Terms.{said, Accepted}
use Rattle.demands.specs.Demand3.{AlwaysAccepted}
use Rattle.demands.proofs.Calls.{call-zero}

-- accepted exactly where the net is one, the words pass and the graph that they say is a schedule
pub reply-passes : (net sheet : List ℕ) → (schedule_reply net sheet ≡ Ok tt) ↔ (IsNet net × WordsPass (petri_net net) sheet × IsSchedule (petri_net net) (said net sheet))
reply-passes net sheet = (
  λ h. let a = (accepted-exactly net sheet).0 h in ((net-judged net).accepts.0 a.net_accepted, words_pass (petri_net net) sheet a.words, a.schedule),
  λ (n, w, s). (accepted-exactly net sheet).1 (record { net_accepted = (net-judged net).accepts.1 n; words = words-hold (petri_net net) sheet w; schedule = s }),
)

-- for any limit of scratch
pub check-zero : (net sheet : List ℕ) {limit : ℕ} {s s' : List ℕ} {a : CheckAnswer} → CallDone limit (check_core net sheet) [] s a [] s'
    → (number (plain_check a) ≡ 0) ↔ ((limit ≤ length s) × (schedule_reply net sheet ≡ Ok tt))
check-zero net sheet d = let (f, g) = call-zero (check-law net sheet) d in (λ z. let (l, h, m) = f z in (l, h), λ (l, h). g (l, h, λ i. omega arith))

pub accepted-reply : (net sheet : List ℕ) → Accepted net sheet → schedule_reply net sheet ≡ Ok tt
accepted-reply net sheet a = ((check-zero net sheet a.done).0 a.zero).1

pub always-accepted : (net sheet : List ℕ) → schedule_reply net sheet ≡ Ok tt → AlwaysAccepted net sheet
always-accepted net sheet h limit s s' a l d = (check-zero net sheet d).1 (l, h)

-- scratch of no more words than are asked
unfoldable pub some-scratch : ℕ → List ℕ
some-scratch limit = replicate limit 0

pub enough-scratch : (limit : ℕ) → limit ≤ length (some-scratch limit)
unfolding some-scratch
enough-scratch limit = omega (arith, length-replicate {A = ℕ} limit 0)

-- there is such a check, under any limit
pub zero-check : (limit : ℕ) (net sheet : List ℕ) → schedule_reply net sheet ≡ Ok tt
    → (s : List ℕ) × (s' : List ℕ) × (a : CheckAnswer) × CheckWithinDone limit net sheet s a s' × (number (plain_check a) ≡ 0)
zero-check limit net sheet h =
    let (a, u, s', d) = (every-call-none (check-law net sheet) {limit = limit} refl).replies (some-scratch limit) in
    (some-scratch limit, s', a, d, (check-zero net sheet d).1 (enough-scratch limit, h))

pub reply-accepted : (net sheet : List ℕ) → schedule_reply net sheet ≡ Ok tt → Accepted net sheet
reply-accepted net sheet h = let (s, s', a, d, z) = zero-check scratch_limit net sheet h in record { scratch = s; scratch' = s'; answer = a; done = d; zero = z }
