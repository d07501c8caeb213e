-- What is promised of reaction times, proved.
use Rattle.refusal.specs.declared.Reason.TheVariants.{SmallOutput}
use Rattle.scan.proofs.Basics.{ℕ, ◌≤◌, arith, ◌≡◌, refl, sym, ap, ◌∙◌, ◌↔◌, List, [], ◌∷◌, ◌++◌, length}
use Prim.Native.Nat.{min, max}
use mathlib.Core.Logic.Iff
use Rattle.refusal.specs.Checks.{Check, once, AllPass}
use Rattle.refusal.proofs.Judges.{pass-append}
use Rattle.net.specs.Checks.{net_checks}
use Rattle.sequential.specs.Petri.{petri_net}
use Rattle.sequential.specs.Checks.{sheet_checks}
use Rattle.sequential.proofs.Accepted.{closed, schedule-judged}
use Rattle.sequential.proofs.Choices.{source↔}
use Rattle.sequential.proofs.Clauses.{await↔}
use Rattle.lending.specs.Demands.{number}
use Rattle.lending.proofs.Done.{done-zero}
use Rattle.lending.proofs.Demands.{every-call-one}
use Rattle.reaction.specs.Extreme.{AtMost, AtLeast}
use Rattle.reaction.specs.ToGo.{best, worst}
use Rattle.reaction.specs.Words.{early, late}
use Rattle.reaction.specs.Checks.{reaction_checks}
use Rattle.reaction.specs.Call.{sheet_graph, sheet_await, report_words, plain_reaction, ReactionDone, ReactionAnswer}
use Rattle.reaction.specs.Known.{Passed}
use Rattle.reaction.proofs.Extreme.{picks-min, picks-max}
use Rattle.reaction.proofs.Unique.{solution-unique}
use Rattle.reaction.proofs.Judged.{reaction-judged, reaction-law, passed}
use Rattle.reaction.proofs.Times.{way, node-times, reaction-times, report-long, few-firings, endless-runs, runs-attain}
use Rattle.demands.specs.Terms.{said}
use Rattle.demands.specs.Reaction.{pair_words, Reportable, Reporting, report_size, reported_by, EveryReaction, ReactionDemand}
use Rattle.demands.proofs.Calls.{own-size, own-front, own-rest, own-fits, unread-one}
use Rattle.demands.proofs.Checked.{reply-passes, accepted-reply}

-- ---- as every call

module _ (net sheet words : List ℕ) where
  abbrev base : List Check
  base = net_checks net ++ sheet_checks (petri_net net) sheet

  -- so many words are needed
  pub fits : (out : List ℕ) → AllPass (base ++ reaction_checks (petri_net net) sheet words) → (pair_words net sheet ≤ length out) ↔ (length (report_words net sheet words) ≤ length out)
  fits out p = rw (report-long net sheet words (passed net sheet words ((reaction-judged net sheet words).accepts.1 p))).pairs Iff.rfl

  every : (out : List ℕ) → EveryReaction net sheet words out
  every out = every-call-one (reaction-law net sheet words) refl (fits out)

  answers : (out s out' s' : List ℕ) (a : ReactionAnswer) → ReactionDone net sheet words out s a out' s' → (number (plain_reaction a) ≡ 0) ↔ Reportable net sheet words out s
  answers out s out' s' a d =
      let (f, g) = ((every out).by_numbers s s' a out' d).zero in
      let (h, k) = pass-append base (reaction_checks (petri_net net) sheet words ++ (once (pair_words net sheet ≤ length out) SmallOutput ∷ [])) in (
        λ z. let (l, p) = f z in
            let (b, (x, (y, (w, (m, u))))) = h p in
            let (n, v, i) = (reply-passes net sheet).0 ((schedule-judged net sheet).accepts.1 b) in
            record { scratch_holds = l; net_passes = n; words_pass = v; schedule = i; durations_pass = (x, (y, tt)); ends = λ n l. (w n l).0; out_holds = m },
        λ r. let (x, (y, u)) = r.durations_pass in
            let b = (schedule-judged net sheet).accepts.0 ((reply-passes net sheet).1 (r.net_passes, r.words_pass, r.schedule)) in
            g (r.scratch_holds, k (b, (x, (y, (λ n l. (r.ends n l, tt), (r.out_holds, tt)))))),
      )

-- ---- a call that answered 0

module _ (net sheet words : List ℕ) (c : Reporting net sheet words) where
  known : Passed net sheet words
  known = passed net sheet words (done-zero (reaction-law net sheet words) c.done c.zero).passed

  report-is : reported_by c ≡ report_words net sheet words
  report-is = own-front (reaction-law net sheet words) c.done c.zero 0 refl

  size_is : report_size c ≡ length (report_words net sheet words)
  size_is = own-size (reaction-law net sheet words) c.done c.zero 0 refl

-- ---- all of it

pub reaction-demand : ReactionDemand
unfolding best worst
reaction-demand = record {
  every = every;
  unread = λ net sheet words. unread-one (reaction-law net sheet words) _ refl;
  answers = answers;
  awaits = λ net sheet. await↔ (petri_net net) (said net sheet);
  nodes = λ net sheet words c. node-times net sheet words (known net sheet words c);
  best_alone = λ net sheet words c v h. let k = known net sheet words c in
      solution-unique (sheet_graph net sheet) (sheet_await net sheet) (closed net sheet k.accepted) k.ending (way net sheet words k) min (early words) AtMost picks-min v
      (best (sheet_graph net sheet) (sheet_await net sheet) (early words)) h (λ n l. (node-times net sheet words k n l).best_solves);
  worst_alone = λ net sheet words c v h. let k = known net sheet words c in
      solution-unique (sheet_graph net sheet) (sheet_await net sheet) (closed net sheet k.accepted) k.ending (way net sheet words k) max (late words) AtLeast picks-max v
      (worst (sheet_graph net sheet) (sheet_await net sheet) (late words)) h (λ n l. (node-times net sheet words k n l).worst_solves);
  reactions = λ net sheet words c a t s. rw (report-is net sheet words c)
      (reaction-times net sheet words (known net sheet words c) a t s.node ((await↔ (petri_net net) (said net sheet) a).1 s.awaits) s.transition ((source↔ (petri_net net) t).1 s.source));
  attained = λ net sheet words c a t s.
      runs-attain net sheet words (known net sheet words c) a t s.node ((await↔ (petri_net net) (said net sheet) a).1 s.awaits) s.transition ((source↔ (petri_net net) t).1 s.source);
  short = λ net sheet words c. few-firings net sheet words (known net sheet words c);
  endless = λ net sheet a. endless-runs net sheet (accepted-reply net sheet a);
  sized = λ net sheet words c. let l = report-long net sheet words (known net sheet words c) in let q = size_is net sheet words c in (q ∙ l.pairs, omega (arith, q, l.most));
  within = λ net sheet words c.
      let law = reaction-law net sheet words in
      (own-rest law c.done c.zero 0 refl, own-fits law c.done c.zero 0 refl, ap length (report-is net sheet words c) ∙ sym (size_is net sheet words c));
}
