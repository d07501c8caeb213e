-- What is promised of composition, proved.
use Rattle.std.specs.Prelude.{Ok}
use Rattle.scan.proofs.Basics.{ℕ, ◌+◌, ◌-◌, ◌*◌, ◌≤◌, ◌<◌, arith, ◌≡◌, refl, sym, ap, ◌∙◌, ltb, option_map, List, [], ◌∷◌, ◌++◌, length, get_or}
use mathlib.Core.Path.{subst, fun_ext}
use mathlib.Core.Logic.Iff
use Rattle.scan.proofs.Tests.{by_test, ltb-true}
use Rattle.scan.proofs.Tabulate.{tabulate-length}
use Rattle.automaton.specs.Automaton.{allows}
use Rattle.automaton.specs.Reach.{Reachable}
use Rattle.automaton.specs.Quotient.{Renumbering}
use Rattle.refusal.specs.Limits.{scratch_limit}
use Rattle.refusal.proofs.Judges.{pass-append}
use Rattle.net.specs.Checks.{net_checks}
use Rattle.net.specs.Check.{net_reply}
use Rattle.net.proofs.Checks.{net-judged}
use Rattle.sequential.specs.Petri.{PetriNet, petri_net, Source}
use Rattle.sequential.specs.Words.{count_at}
use Rattle.sequential.specs.Check.{schedule_reply}
use Rattle.sequential.proofs.Entries.{marking-node, marking-at}
use Rattle.sequential.proofs.Accepted.{accepted-exactly}
use Rattle.lending.specs.Call.{CallDone}
use Rattle.lending.specs.Demands.{own}
use Rattle.lending.proofs.Done.{done-zero}
use Rattle.lending.proofs.Demands.{every-call-one}
use Rattle.composed.specs.Product.{Tasks, OnePerSource, held_at, held_by_all, product}
use Rattle.composed.specs.Composed.{ReachedPart, trimmed_number, OwnSources}
use Rattle.composed.specs.Sheet.{four_sheets, given_sheets, read_sheets, source_of, composed_sheet}
use Rattle.composed.specs.Checks.{compose_checks, Composes}
use Rattle.composed.specs.Call.{compose_verdict, compose_core, ComposeDone, plain_compose, ComposeAnswer}
use Rattle.composed.proofs.Chain.{one-per-source, composes↔}
use Rattle.composed.proofs.Commute.{commutes}
use Rattle.composed.proofs.Composed.{await-sources, sources-await}
use Rattle.composed.proofs.Counts.{held as counts-held, reached-balanced}
use Rattle.composed.proofs.Done.{compose-law, compose-judged}
use Rattle.composed.proofs.Named.{named}
use Rattle.composed.proofs.OneSource.{renumbered}
use Rattle.sequential.proofs.Carried.{await-carried}
use Rattle.composed.proofs.Services.{services-allowed}
use Rattle.composed.proofs.Sheet.{written-words, written-schedule, written-part, written-breadth-first, written-short}
use Rattle.composed.proofs.States.{reached↔one-busy}
use Rattle.automaton.proofs.Carried.{carried-follow}
use Rattle.composed.proofs.Trimmed.{part-carries}
use Rattle.demands.specs.Terms.{said}
use Rattle.demands.specs.Compose.{tasks, Composing, composed_by, composed_size, Written, ComposeDemand}
use Rattle.demands.proofs.Calls.{unread-one, own-front, own-rest, own-fits}
use Rattle.demands.proofs.Checked.{always-accepted}
use Rattle.demands.proofs.Dependent.{some_transition, source-there, is-dependent}

-- ---- a call that answered 0

module _ (net : List ℕ) (k : ℕ) (a b c d : List ℕ) where
  abbrev N : PetriNet
  N = petri_net net

  abbrev sheet : ℕ → List ℕ
  sheet = given_sheets k a b c d

  abbrev X : Tasks
  X = tasks net k a b c d

  module _ (x : Composing net k a b c d) where
    accepted : compose_verdict net k (given_sheets k a b c d) ≡ Ok tt
    accepted = (done-zero (compose-law net k sheet) x.done x.zero).passed

    net_accepted : net_reply net ≡ Ok tt
    net_accepted = (net-judged net).accepts.1 ((pass-append (net_checks net) (compose_checks N k sheet)).0 ((compose-judged net k sheet).accepts.0 accepted)).0

    T : 0 < (petri_net net).transitions
    T = some_transition net net_accepted

    S : (t : ℕ) × (t < (petri_net net).transitions) × Source (petri_net net) t
    S = source-there net net_accepted

    composes : Composes (petri_net net) k (given_sheets k a b c d)
    composes = (composes↔ N T S k sheet).0 ((pass-append (net_checks net) (compose_checks N k sheet)).0 ((compose-judged net k sheet).accepts.0 accepted)).1

    pub one_each : OnePerSource (petri_net net) (tasks net k a b c d)
    one_each = one-per-source N T S k sheet composes.count composes.sheets

    -- ---- its words

    pub size_is : composed_size x ≡ length (composed_sheet (petri_net net) k (given_sheets k a b c d))
    size_is = ap (λ (r : ComposeAnswer). own (plain_compose r) 0) (done-zero (compose-law net k sheet) x.done x.zero).reply

    words_are : composed_by x ≡ composed_sheet (petri_net net) k (given_sheets k a b c d)
    words_are = own-front (compose-law net k sheet) x.done x.zero 0 refl

    abbrev state : ℕ → ℕ
    state = trimmed_number (product N X)

    part : ReachedPart (product (petri_net net) (tasks net k a b c d)) (said net (composed_by x)) (trimmed_number (product (petri_net net) (tasks net k a b c d)))
    part = rw words_are (written-part N T S k sheet composes)

    -- ---- what they say

    reply : schedule_reply net (composed_by x) ≡ Ok tt
    reply = rw words_are ((accepted-exactly net (composed_sheet N k sheet)).1 (record {
      net_accepted = net_accepted;
      words = written-words N T S k sheet composes;
      schedule = written-schedule N T S k sheet composes;
    }))

    count-is : (s p : ℕ) → Reachable (product (petri_net net) (tasks net k a b c d)) s → p < (petri_net net).places
        → count_at (petri_net net) (composed_by x) (trimmed_number (product (petri_net net) (tasks net k a b c d)) s) p ≡ held_at (petri_net net) (tasks net k a b c d) s p
    unfolding product
    count-is s p r l =
        sym (marking-at N (composed_by x) (state s) p (part.node s r) l) ∙ ap (λ (m : List ℕ). get_or m p 0) (part.labels s r) ∙ counts-held N X s p l

    whole-count : (s p : ℕ) → Reachable (product (petri_net net) (tasks net k a b c d)) s → p < (petri_net net).places
        → held_at (petri_net net) (tasks net k a b c d) s p + k * (petri_net net).start p ≡ (petri_net net).start p + held_by_all (tasks net k a b c d) s p
    unfolding held_at
    whole-count s p r l = plain (N.start p) (held_by_all X s p) (k * N.start p) (reached-balanced N X one_each composes.independent s r p l)
      where
        plain : (a h m : ℕ) → m ≤ a + h → a + h - m + m ≡ a + h
        plain a h m e = omega arith

    pub is-written : Written net k a b c d x
    is-written = record {
      accepted = always-accepted net (composed_by x) reply;
      state = state;
      states = part;
      numbered = rw words_are (written-breadth-first N T S k sheet composes);
      counts = λ s p r l. rw (count-is s p r l) (whole-count s p r l);
      awaits = λ s r. (
        λ w. (await-carried N (part-carries part) s r).1 (await-sources N X one_each s w),
        λ w. sources-await N X one_each s r ((await-carried N (part-carries part) s r).0 w),
      );
      either = λ s i j m n σ τ r w li lj e p q.
          let K = commutes N X one_each s i j m n σ τ r w li lj e p q in
          let G = said net (composed_by x) in (
            K.end,
            K.waits,
            K.one_order,
            K.other_order,
            carried-follow (part-carries part) (σ ++ τ) s r ∙ ap (option_map state) K.one_order,
            carried-follow (part-carries part) (τ ++ σ) s r ∙ ap (option_map state) K.other_order,
          );
      short = rw size_is (written-short N T S k sheet composes);
      fits = own-fits (compose-law net k sheet) x.done x.zero 0 refl;
      within = own-rest (compose-law net k sheet) x.done x.zero 0 refl;
    }

    pub lists : (i : ℕ) → i < k → (σ : List ℕ) → OwnSources (petri_net net) (source_of (petri_net net) i) σ
        → allows (said net (composed_by x)) 0 σ ≡ allows (said net (given_sheets k a b c d i)) 0 σ
    lists i l σ h = services-allowed N X one_each i l (said net (composed_by x)) state part σ h

-- ---- one source alone

one_source : (net a b c d : List ℕ) (x : Composing net 1 a b c d) → (f : ℕ → ℕ) × Renumbering (said net a) (said net (composed_by x)) f
unfolding read_sheets
one_source net a b c d x = (
  trimmed_number (product (petri_net net) (tasks net 1 a b c d)),
  renumbered (petri_net net) (tasks net 1 a b c d) (one_each net 1 a b c d x) refl
      (λ n l. ap length (marking-node (petri_net net) a n l) ∙ tabulate-length (count_at (petri_net net) a n) (petri_net net).places) _ _ (part net 1 a b c d x),
)

-- ---- slices past the number

past_unread : (net : List ℕ) (k : ℕ) (a b c d a₁ b₁ c₁ d₁ out s out' s' : List ℕ) (r : ComposeAnswer)
    → ((i : ℕ) → i < k → four_sheets a b c d i ≡ four_sheets a₁ b₁ c₁ d₁ i)
    → ComposeDone net k a b c d out s r out' s' → ComposeDone net k a₁ b₁ c₁ d₁ out s r out' s'
past_unread net k a b c d a₁ b₁ c₁ d₁ out s out' s' r h done =
    subst (λ (sheet : ℕ → List ℕ). CallDone scratch_limit (compose_core net k sheet) (out ∷ []) s r (out' ∷ []) s') (fun_ext read) done
  where
    read : (i : ℕ) → given_sheets k a b c d i ≡ given_sheets k a₁ b₁ c₁ d₁ i
    read i = unfold read_sheets in (by_test (ltb i k) (λ q. rw q (h i (ltb-true i k q))) (λ q. rw q))

-- ---- all of it

pub compose-demand : ComposeDemand
compose-demand = record {
  every = λ net k a b c d. record {
    needed = length (composed_sheet (petri_net net) k (given_sheets k a b c d));
    every = λ out. every-call-one (compose-law net k (given_sheets k a b c d)) refl (λ p. Iff.rfl);
    answered = size_is net k a b c d;
  };
  named = λ net k a b c d out s out' s' r done. named net k (given_sheets k a b c d) done;
  unread = λ net k a b c d. unread-one (compose-law net k (given_sheets k a b c d)) _ refl;
  past_unread = past_unread;
  dependent = λ net k a b c d out s out' s' r done before. is-dependent net k a b c d done before;
  written = is-written;
  reached = λ net k a b c d x s. reached↔one-busy (petri_net net) (tasks net k a b c d) (one_each net k a b c d x) s;
  services = lists;
  one_source = one_source;
}
