-- The words of the trimmed graph, for words that pass 1 to 9 and 26: they pass 6 to 9 again, and describe the graph cut down to its reached nodes.
use Rattle.std.specs.Prelude.{Ok}
use Rattle.scan.proofs.Basics.{ℕ, ◌≤◌, ◌<◌, arith, ◌≡◌, refl, sym, ap, subst, ◌∙◌, ◌↔◌, true, some, List, ◌++◌, length, get_or}
use Rattle.scan.specs.Scan.{tabulate}
use Rattle.scan.proofs.Tests.{by_less}
use Rattle.automaton.specs.Automaton.{Automaton, Closed, SameLists}
use Rattle.automaton.specs.Reach.{Reachable}
use Rattle.automaton.specs.Quotient.{Confined}
use Rattle.automaton.proofs.Automaton.{arc-cases}
use Rattle.automaton.proofs.Reach.{reachable-node, arc-reachable}
use Rattle.refusal.proofs.Judges.{Spared, spared-append, without-spared}
use Rattle.net.specs.Checks.{net_checks}
use Rattle.sequential.specs.Petri.{PetriNet, petri_net}
use Rattle.sequential.specs.Words.{node_count, graph}
use Rattle.sequential.specs.OnReached.{HoldsOnReached, HoldsOnAll}
use Rattle.sequential.specs.Checks.{word_checks, graph_checks, sheet_checks}
use Rattle.sequential.specs.Check.{schedule_reply}
use Rattle.sequential.specs.Known.{WordsHold}
use Rattle.sequential.proofs.Accepted.{accepted-exactly}
use Rattle.sequential.proofs.Carried.{carried-schedule}
use Rattle.graph.specs.Readable.{words_reply, Readable}
use Rattle.graph.proofs.Readable.{reply-readable, words}
use Rattle.encoding.specs.Encoding.{held, encode, Encodable}
use Rattle.encoding.proofs.Encoded.{encoded-nodes, encoded-entries, encoded-length, encoded-passes}
use Rattle.encoding.proofs.Decoded.{decode_encode}
use Rattle.encoding.proofs.Recoded.{encode_decode, decoded-encodable}
use Rattle.trimmed.specs.Trim.{is_kept, old_numbers, new_number, trimmed_graph, trimmed_words, kept_list, Trimming, ListsReached}
use Rattle.trimmed.proofs.Unique.{Onto, onto-count, onto-rank}
use Rattle.trimmed.proofs.Trimmed.{kept↔, nodes-few, kept-length, trimmed-nodes, trimmed-transitions, trimmed-label, trimmed-confined, old-node, trimming, trimming-carries}
use Rattle.trimmed.proofs.Trimmed.{lists-reached, trimmed-closed, trimmed-lists, trimmed-reached, all_listed, old-of-new, trimmed-itself}
use Rattle.trimmed.proofs.Entries.{kept-few}

-- ---- what is cut down is the trimmed graph

module _ (A : Automaton) (c : Closed A) (M : Automaton) (f : ℕ → ℕ) (Q : Trimming A M f) where
  image : Onto (is_kept A) f A.nodes M.nodes
  image = record {
    node = λ m l e. Q.node m ((kept↔ A c m).0 e);
    onto = λ i l. let (m, r, e) = Q.onto i l in (m, reachable-node A c m r, (kept↔ A c m).1 r, e);
  }

  up : (n m : ℕ) → is_kept A n ≡ true → is_kept A m ≡ true → n < m → f n < f m
  up n m a b l = Q.rising n m ((kept↔ A c n).0 a) ((kept↔ A c m).0 b) l

  number_is : (n : ℕ) → Reachable A n → f n ≡ new_number A n
  unfolding new_number
  number_is n r = onto-rank (is_kept A) f up A.nodes M.nodes n image (reachable-node A c n r) ((kept↔ A c n).1 r)

  size_is : M.nodes ≡ (trimmed_graph A).nodes
  size_is = sym (onto-count (is_kept A) f up A.nodes M.nodes image) ∙ sym (trimmed-nodes A ∙ kept-length A)

  module _ (k : Confined M) where
    arc-is : (i t : ℕ) → M.arc i t ≡ (trimmed_graph A).arc i t
    arc-is i t =
        by_less i M.nodes
        (λ l. let (n, r, e) = Q.onto i l in
        ap (λ (x : ℕ). M.arc x t) (sym e) ∙ Q.arcs n t r
        ∙ arc-cases (A.arc n t) (λ a. rw a refl) (λ m a. rw a (ap some (number_is m (arc-reachable A n t m r a))))
        ∙ sym ((trimming A c).arcs n t r) ∙ ap (λ (x : ℕ). (trimmed_graph A).arc x t) (sym (number_is n r) ∙ e))
        (λ l. k.arcs i t l ∙ sym ((trimmed-confined A).arcs i t (rw size_is at l)))

    label_is : (i : ℕ) → M.label i ≡ (trimmed_graph A).label i
    label_is i =
        by_less i M.nodes
        (λ l. let (n, r, e) = Q.onto i l in
        ap M.label (sym e) ∙ Q.labels n r ∙ sym ((trimming A c).labels n r) ∙ ap (trimmed_graph A).label (sym (number_is n r) ∙ e))
        (λ l. k.labels i l ∙ sym ((trimmed-confined A).labels i (rw size_is at l)))

    pub trimming-unique : M.transitions ≡ A.transitions → M ≡ trimmed_graph A
    trimming-unique T = λ i. record {
      nodes = size_is i;
      transitions = (T ∙ sym (trimmed-transitions A)) i;
      arc = λ n t. arc-is n t i;
      label = λ n. label_is n i;
    }

-- ---- the words

module _ (net sheet : List ℕ) (h : words_reply net sheet ≡ Ok tt) where
  abbrev N : PetriNet
  N = petri_net net

  abbrev A : Automaton
  A = graph (petri_net net) sheet

  readable : Readable net sheet
  readable = reply-readable net sheet h

  T : 0 < (petri_net net).transitions
  T = readable.arcs.sizes.some_transition

  P : 0 < (petri_net net).places
  P = readable.arcs.sizes.some_place

  encodable : Encodable (petri_net net) (graph (petri_net net) sheet)
  encodable = decoded-encodable N sheet T P (words net sheet readable)

  closed : Closed (graph (petri_net net) sheet)
  closed = encodable.closed

  result-encodable : Encodable N (trimmed_graph A)
  result-encodable = record {
    transitions = trimmed-transitions A;
    few_nodes = omega (arith, trimmed-nodes A, nodes-few A, encodable.few_nodes);
    few_entries = omega (arith, kept-few N sheet T P (words net sheet readable), readable.arcs.sizes.few_entries);
    closed = trimmed-closed A closed;
    confined = trimmed-confined A;
    places = λ i l. ap length (trimmed-label A i l) ∙ encodable.places (get_or (old_numbers A) i 0) (old-node A i l);
    most = λ i p l m. unfold held in (rw (trimmed-label A i l) (unfold held in (encodable.most (get_or (old_numbers A) i 0) p (old-node A i l) m)));
  }

  pub result-graph : graph (petri_net net) (trimmed_words net sheet) ≡ trimmed_graph (graph (petri_net net) sheet)
  unfolding trimmed_words
  result-graph = decode_encode N (trimmed_graph A) T result-encodable

  pub result_words : WordsHold (petri_net net) (trimmed_words net sheet)
  unfolding trimmed_words
  result_words = encoded-passes N (trimmed_graph A) result-encodable

  pub result-trimming : Trimming (graph (petri_net net) sheet) (graph (petri_net net) (trimmed_words net sheet)) (new_number (graph (petri_net net) sheet))
  result-trimming = subst (λ (M : Automaton). Trimming A M (new_number A)) (sym result-graph) (trimming A closed)

  pub result-list : ListsReached (graph (petri_net net) sheet) (kept_list net sheet)
  unfolding kept_list
  result-list = lists-reached A closed

  -- the list undoes the new numbers
  pub list-old : (n : ℕ) → Reachable (graph (petri_net net) sheet) n → get_or (kept_list net sheet) (new_number (graph (petri_net net) sheet) n) 0 ≡ n
  unfolding kept_list
  list-old n r = old-of-new A closed n r

  pub list-size : length (kept_list net sheet) ≡ node_count (trimmed_words net sheet)
  unfolding kept_list trimmed_words
  list-size = sym (encoded-nodes N (trimmed_graph A) ∙ trimmed-nodes A)

  -- and no other words that pass 6 to 9 say it
  pub result-unique : (other : List ℕ) (f : ℕ → ℕ) → WordsHold (petri_net net) other → Trimming (graph (petri_net net) sheet) (graph (petri_net net) other) f
      → other ≡ trimmed_words net sheet
  unfolding trimmed_words
  result-unique other f w q =
      sym (encode_decode N other T P w) ∙ ap (encode N) (trimming-unique A closed (graph N other) f q (decoded-encodable N other T P w).confined refl)

  pub result-lists : SameLists (graph (petri_net net) (trimmed_words net sheet)) (graph (petri_net net) sheet) 0 0
  result-lists = subst (λ (M : Automaton). SameLists M A 0 0) (sym result-graph) (trimmed-lists A closed)

  pub result-reached : (n : ℕ) → n < node_count (trimmed_words net sheet) → Reachable (graph (petri_net net) (trimmed_words net sheet)) n
  result-reached = subst (λ (M : Automaton). (n : ℕ) → n < M.nodes → Reachable M n) (sym result-graph) (trimmed-reached A closed)

  -- ---- accepted exactly where every clause but reachability holds on what is reached

  pub result-accepted : (schedule_reply net (trimmed_words net sheet) ≡ Ok tt) ↔ HoldsOnReached (petri_net net) (graph (petri_net net) sheet)
  result-accepted =
      let (f, g) = carried-schedule N (trimming-carries result-trimming) in
      let (a, b) = accepted-exactly net (trimmed_words net sheet) in
      (λ e. f (a e).schedule, λ s. b (record { net_accepted = readable.arcs.accepted; words = result_words; schedule = g s }))

  -- as where 16 alone refuses it
  pub all-on-reached : HoldsOnAll (petri_net net) (graph (petri_net net) sheet) → HoldsOnReached (petri_net net) (graph (petri_net net) sheet)
  all-on-reached s = record {
    starts = s.starts;
    choices = λ n r. s.choices n (reachable-node A closed n r);
    root_awaits = s.root_awaits;
    enables = λ n t m r. s.enables n t m (reachable-node A closed n r);
    lands = λ n t m r. s.lands n t m (reachable-node A closed n r);
    returns = λ n r. s.returns n (reachable-node A closed n r);
  }

  -- ---- never refused by 16

  pub result-spared : Spared 16 (net_checks net ++ sheet_checks (petri_net net) (trimmed_words net sheet))
  result-spared =
      spared-append 16 (net_checks net) (sheet_checks N (trimmed_words net sheet)) (without-spared 16 (net_checks net) refl)
      (spared-append 16 (word_checks N (trimmed_words net sheet)) (graph_checks N (trimmed_words net sheet)) (without-spared 16 (word_checks N (trimmed_words net sheet)) refl) spared)
    where
      other : {P : Type 0} (n : ℕ) → (n ≡ 16 → ⊥) → n ≡ 16 → P
      other n h e = absurd (h e)

      spared : Spared 16 (graph_checks N (trimmed_words net sheet))
      spared = (
        λ p l. (other 10 (λ e. omega (arith, e)), tt),
        (
          λ n l. (other 11 (λ e. omega (arith, e)), (other 12 (λ e. omega (arith, e)), tt)),
          (
            λ n l. (other 13 (λ e. omega (arith, e)), tt),
            (
              λ i l. (other 14 (λ e. omega (arith, e)), (other 27 (λ e. omega (arith, e)), (other 15 (λ e. omega (arith, e)), tt))),
              (
                λ n l. (λ e. result-reached n l, tt),
                (λ n l. (other 17 (λ e. omega (arith, e)), tt), tt),
              ),
            ),
          ),
        ),
      )

  -- ---- where all is reached, as in an accepted schedule

  module _ (all : (n : ℕ) → n < node_count sheet → Reachable (graph (petri_net net) sheet) n) where
    pub reached-itself : trimmed_words net sheet ≡ sheet
    unfolding trimmed_words
    reached-itself = ap (encode N) (trimmed-itself A closed encodable.confined all) ∙ encode_decode N sheet T P (words net sheet readable)

    pub reached-list : kept_list net sheet ≡ tabulate (λ n. n) (node_count sheet)
    unfolding kept_list
    reached-list = all_listed A closed encodable.confined all

  -- ---- how long they are

  pub result-short : length (trimmed_words net sheet) ≤ length sheet
  unfolding trimmed_words
  result-short =
      omega (arith, encoded-length N (trimmed_graph A), encoded-entries N (trimmed_graph A), kept-few N sheet T P (words net sheet readable), readable.arcs.sizes.long)

  pub list-short : length (kept_list net sheet) ≤ node_count sheet
  unfolding kept_list
  list-short = nodes-few A
