-- The promises beside the three demands, each proved.
use Rattle.std.specs.Prelude.{Ok}
use Rattle.refusal.specs.Refusal.{Verdict}
use Rattle.scan.proofs.Basics.{ℕ, ◌≤◌, arith, ◌≡◌, refl, sym, ap, subst, ◌∙◌, none, List, length, get_or}
use lib.ListN.{get_or-append}
use Rattle.scan.proofs.Tests.{iff→eq}
use Rattle.automaton.proofs.Automaton.{follow-allows}
use Rattle.refusal.specs.Verdict.{verdict_of}
use Rattle.refusal.proofs.Verdicts.{answer-none, then_next, then-accepted}
use Rattle.net.proofs.Checks.{net-judged}
use Rattle.net.proofs.Laws.{sizes, some-source}
use Rattle.sequential.specs.Petri.{PetriNet, petri_net}
use Rattle.sequential.specs.Words.{count_at}
use Rattle.sequential.specs.Check.{schedule_reply}
use Rattle.sequential.proofs.Words.{words-hold, words_pass}
use Rattle.sequential.proofs.Entries.{marking-at}
use Rattle.sequential.proofs.Choices.{choice-refl, choice-sym, choice-trans, choice-source, choice-takes, choice-closed, choice-alone, choice-free}
use Rattle.sequential.proofs.FreeChoice.{set-class, choice-set, choice-fcs, set-some}
use Rattle.sequential.proofs.Accepted.{accepts, closed}
use Rattle.sequential.proofs.Runs.{goes_on}
use Rattle.sequential.proofs.Paths.{short-where}
use Rattle.lending.specs.Demands.{number}
use Rattle.scan.specs.Front.{cleared}
use Rattle.lending.proofs.Lent.{room-one, scratch-enough}
use Rattle.lending.proofs.Done.{done-zero, own-answered}
use Rattle.lending.proofs.Laws.{served, answered-none}
use Rattle.schedule.specs.Firing.{fresh_walker, step_fault, follows, entry_fired, run_fault, node_after, end_counts}
use Rattle.refusal.specs.Limits.{scratch_limit}
use Rattle.schedule.specs.Calls.{FreshDone, FireDone, RunDone}
use Rattle.schedule.specs.Plain.{plain_run, FireAnswer, RunAnswer}
use Rattle.schedule.specs.Walks.{Chain, stays, goes}
use Rattle.schedule.specs.declared.Walker.{Walker}
use Rattle.schedule.proofs.Walkers.{walker-out, few_places, fresh-passes, fresh-node, fresh-length}
use Rattle.schedule.proofs.Following.{run-leads, run-allowed, run_ends, end-length}
use Rattle.schedule.proofs.Folded.{Kept, chain-along, along-chain}
use Rattle.schedule.proofs.Done.{fire-law, run-law}
use Rattle.minimal.specs.Minimal.{minimal_form}
use Rattle.encoding.proofs.Encoded.{encoded-passes}
use Rattle.encoding.proofs.Decoded.{decode_encode}
use Rattle.encoding.proofs.Recoded.{encode_decode, decoded-encodable}
use Rattle.minimal.proofs.Minimal.{form-no-longer, form-twice}
use Rattle.demands.specs.Terms.{said}
use Rattle.demands.specs.Demand3.{made}
use Rattle.demands.specs.Further.{FreshPasses, PathsShorten, ChoicePartition, PublishedChoiceSets, NeverStuck, OneEncoding, FormNoLonger, FormTwice}
use Rattle.demands.specs.Further.{Firings, none_fired, one_fired, Folds, RunFolds}
use Rattle.demands.proofs.Calls.{call-zero}
use Rattle.demands.proofs.Checked.{accepted-reply, some-scratch, enough-scratch}
use Rattle.demands.proofs.Demand3.{made-form, size-form}

-- ---- schedules

pub paths-shorten : PathsShorten
paths-shorten net sheet p w n l = short-where (petri_net net) sheet (sizes net ((net-judged net).accepts.1 p)).some_transition (words-hold (petri_net net) sheet w).arcs n l

pub choice-partition : ChoicePartition
choice-partition net p = record {
  reflexive = choice-refl (petri_net net);
  symmetric = choice-sym (petri_net net);
  transitive = choice-trans (petri_net net);
  source = let (t, l, h) = some-source net ((net-judged net).accepts.1 p) in (t, l, (refl, h));
  sources = choice-source (petri_net net);
  alike = choice-takes (petri_net net);
  closed = λ t u v h d l. choice-closed (petri_net net) t u v h d (l, refl);
  alone = choice-alone (petri_net net);
  unarbitrated = λ c t u l. choice-free (petri_net net) t u refl refl (λ v (m, k). c t l v (m, k));
}

pub published-choice-sets : PublishedChoiceSets
published-choice-sets net p =
    let N = petri_net net in
    let (s, l, h) = some-source net ((net-judged net).accepts.1 p) in
    record {
      exactly = λ C. (λ f. let (t, x) = set-some N s (l, refl) C f in (t, x.0.0, set-class N C f t x), λ (t, m, e). choice-set N C t (m, refl) e);
      together = λ t u l m. choice-fcs N t u (l, refl) m;
      some = set-some N s (l, refl);
      covers = λ t m. (choice-fcs N t t (m, refl) m).0 (choice-refl N t);
      apart = λ C D f g t x y u m.
          let (a, b) = set-class N C f t x u (m, refl) in
          let (c, d) = set-class N D g t y u (m, refl) in
          iff→eq (C u) (D u) (λ e. d (a e)) (λ e. b (c e));
      sources = λ C e. choice-set N C s (l, refl) (λ u (m, k).
          let (a, b) = choice-source N s u (refl, h) in
          (λ x. b ((e u m).0 x), λ k. (e u m).1 (a k)));
    }

pub never_stuck : NeverStuck
never_stuck net sheet σ h a = let r = accepted-reply net sheet h in goes_on (petri_net net) (said net sheet) (closed net sheet r) refl (accepts net sheet r).schedule σ a

-- ---- runs

module _ (net sheet : List ℕ) (h : schedule_reply net sheet ≡ Ok tt) where
  abbrev N : PetriNet
  N = petri_net net

  -- a call of the single firing for each firing that passes, and the other way round
  fire-call : (w : Walker) (t : ℕ) → step_fault (petri_net net) sheet w t ≡ none
      → FireDone net sheet (some-scratch scratch_limit) w t (Ok (record { entry = entry_fired (petri_net net) sheet w t })) (follows (petri_net net) sheet w t)
      (cleared scratch_limit (some-scratch scratch_limit))
  fire-call w t e = served (scratch-enough scratch_limit (length (some-scratch scratch_limit)) (enough-scratch scratch_limit)) (answered-none refl (then_next _ _ h ∙ ap verdict_of e) refl) refl

  chain-calls : (w y : Walker) (σ : List ℕ) → Chain (petri_net net) sheet w σ y → Firings net sheet w σ y
  chain-calls w y σ (stays x) = none_fired x
  chain-calls w y σ (goes x z t τ e c) = one_fired x (follows N sheet x t) z t _ τ (some-scratch scratch_limit) _ (fire-call x t e) (chain-calls (follows N sheet x t) z τ c)

  pub calls-chain : (w y : Walker) (σ : List ℕ) → Firings net sheet w σ y → Chain (petri_net net) sheet w σ y
  calls-chain w y σ (none_fired x) = stays x
  calls-chain w y σ (one_fired x n z t i τ s s' d c) =
      let f = done-zero (fire-law net sheet x t) d refl in
      let e = answer-none _ (then-accepted (schedule_reply net sheet) _ f.passed).1 in
      let q : n ≡ follows N sheet x t = ap (λ (a : FireAnswer × Walker). a.1) f.reply in
      goes x z t τ e (subst (λ (u : Walker). Chain N sheet u τ z) q (calls-chain n z τ c))

  module _ (firings out s out' s' : List ℕ) (a : RunAnswer) (w : Walker) (d : RunDone net sheet firings out s a out' s') (k : Kept net sheet h w 0) where
    run-passed : number (plain_run a) ≡ 0 → run_fault (petri_net net) sheet firings ≡ none
    run-passed z = answer-none _ (then-accepted (schedule_reply net sheet) _ (done-zero (run-law net sheet firings) d z).passed).1

    answers : scratch_limit ≤ length s → (petri_net net).places ≤ length out → run_fault (petri_net net) sheet firings ≡ none → number (plain_run a) ≡ 0
    answers l m e = (call-zero (run-law net sheet firings) d).1 (l, then_next _ _ h ∙ ap verdict_of e, (room-one _ _).0 (rw (end-length net firings) m))

    -- where the firings end
    ended : (y : Walker) → number (plain_run a) ≡ 0 → Firings net sheet w firings y → Kept net sheet h y (node_after (petri_net net) sheet firings (length firings))
    ended y z c =
        let (m, e, j) = along-chain net sheet h firings w y 0 k (calls-chain w y firings c) in
        let f = run-leads N sheet firings (run-passed z) in
        let q : m ≡ node_after N sheet firings (length firings) = cc in
        rw q at j

    folds : Folds net sheet firings out s a out' w
    folds = record {
      exactly = λ l m. (
        λ z. let (y, c, j) = chain-along net sheet h firings w 0 _ k (run-leads N sheet firings (run-passed z)) in (y, chain-calls w y firings c),
        λ (y, c).
            let (n, e, j) = along-chain net sheet h firings w y 0 k (calls-chain w y firings c) in
            answers l m ((run-allowed N sheet firings).1 (follow-allows (said net sheet) 0 n firings e)),
      );
      node = λ y z c. (ended y z c).node ∙ sym (own-answered (run-law net sheet firings) d z 1);
      counts = λ y z c p l.
          let j = ended y z c in
          let e = run_ends net sheet firings h (run-passed z) in
          let few = few_places net sheet h in
          (walker-out N sheet y j.passes).holds p (omega arith) ∙ ap (λ (n : ℕ). count_at N sheet n p) j.node ∙ sym (marking-at N sheet _ p e.low l)
          ∙ ap (λ (x : List ℕ). get_or x p 0) e.counts ∙ sym (get_or-append (end_counts net firings) _ 0 p (rw (end-length net firings) l))
          ∙ sym (ap (λ (x : List ℕ). get_or x p 0) ((done-zero (run-law net sheet firings) d z).written 0));
    }

pub fresh_kept : (net sheet : List ℕ) (r : schedule_reply net sheet ≡ Ok tt) (v : Verdict) (w : Walker) → FreshDone net v w → Kept net sheet r w 0
fresh_kept net sheet r v w f =
    subst (λ (x : Walker). Kept net sheet r x 0) (sym (f.made ∙ ap (λ (x : Verdict). fresh_walker x net) f.reply))
    (record { passes = fresh-passes net sheet r; node = fresh-node net sheet r; counts = fresh-length net sheet r })

pub fresh-fires : FreshPasses
fresh-fires net sheet v w t h f o =
    let k = fresh_kept net sheet (accepted-reply net sheet h) v w f in
    let p = walker-out (petri_net net) sheet w k.passes in
    (p.node, ((λ i l. (p.holds i l, tt)), (rw k.node o, tt)))

pub run-folds : RunFolds
run-folds net sheet firings out s out' s' a v w h d f = let r = accepted-reply net sheet h in folds net sheet r firings out s out' s' a w d (fresh_kept net sheet r v w f)

-- ---- words and graphs

pub one-encoding : OneEncoding
one-encoding net p =
    let s = sizes net ((net-judged net).accepts.1 p) in
    record {
      decodes = λ sheet w. decoded-encodable (petri_net net) sheet s.some_transition s.some_place (words-hold (petri_net net) sheet w);
      encodes = λ A E. words_pass (petri_net net) _ (encoded-passes (petri_net net) A E);
      encode_decode = λ sheet w. encode_decode (petri_net net) sheet s.some_transition s.some_place (words-hold (petri_net net) sheet w);
      decode_encode = λ A E. decode_encode (petri_net net) A s.some_transition E;
    }

-- ---- minimal forms

pub form-is-no-longer : FormNoLonger
form-is-no-longer net sheet h c = rw (size-form net sheet c) (form-no-longer net sheet (accepted-reply net sheet h))

pub form-of-form : FormTwice
form-of-form net sheet h c d =
    made-form net (made c) d ∙ ap (minimal_form net) (made-form net sheet c) ∙ form-twice net sheet (accepted-reply net sheet h) ∙ sym (made-form net sheet c)
