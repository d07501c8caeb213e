-- What the writer has written after some entries: the keys of the kept ones, and the value of each as many words behind its key as there are keys in all.
use Rattle.scan.proofs.Basics.{ℕ, suc, ◌+◌, ◌*◌, ◌≤◌, ◌<◌, arith, ◌≡◌, refl, sym, ap, ◌∙◌, Bool, true, false, none, some, List, [], ◌∷◌, ◌++◌, length, get_or, set}
use mathlib.Core.List.{append-nil}
use lib.Seq.{sets, set_comm}
use Rattle.scan.specs.Scan.{bit, count, passing}
use Rattle.scan.specs.Placed.{placed}
use Rattle.scan.proofs.Count.{count-more, count-le}
use Rattle.scan.proofs.First.{when-hit, when-miss}
use Rattle.scan.proofs.Placed.{placed-append, placed-length}
use Rattle.sequential.specs.Petri.{PetriNet, petri_net}
use Rattle.sequential.specs.Words.{node_count, entry_count, graph}
use Rattle.graph.specs.Readable.{Readable}
use Rattle.graph.proofs.Readable.{words}
use Rattle.encoding.specs.Encoding.{gather, keys}
use Rattle.encoding.specs.Rows.{Appended}
use Rattle.encoding.proofs.Gather.{gather-more}
use Rattle.encoding.proofs.Encoded.{encoded-length, encoded-entries}
use Rattle.encoding.proofs.Rows.{gathered-hit, gathered-miss}
use Rattle.trimmed.specs.Trim.{is_kept, old_numbers, trimmed_graph, trimmed_words, kept_list}
use Rattle.trimmed.specs.Entries.{entry_kept, new_key, new_value, kept_key, kept_value, kept_words}
use Rattle.trimmed.proofs.Rank.{rank_less}
use Rattle.trimmed.proofs.Trimmed.{trimmed-nodes}
use Rattle.trimmed.proofs.Entries.{keys-counted, values-counted, kept-words, kept-entries}
use Rattle.trim.proofs.Reading.{cell-kept, cell-dropped}
use Rattle.trim.specs.Tables.{NewCells, NewNodes, Counted}

-- ---- a word written before others

sets-before : (xs out : List ℕ) (at j v : ℕ) → j < at → set (sets out at xs) j v ≡ sets (set out j v) at xs
sets-before [] out at j v l = refl
sets-before (x ∷ xs) out at j v l =
    sets-before xs (set out at x) (suc at) j v (omega arith) ∙ ap (λ (o : List ℕ). sets o (suc at) xs) (set_comm out at j x v (λ e. omega (arith, e)))

placed-before : (xs out : List ℕ) (at j v : ℕ) → j < at → placed (placed out at xs) j (v ∷ []) ≡ placed (placed out j (v ∷ [])) at xs
unfolding placed
placed-before = sets-before

-- one more of either of two runs of words, of which the one begins where the other cannot reach
placed-both : (ks vs out : List ℕ) (at k v i j : ℕ) → i ≡ length ks → j ≡ length vs → 2 + i < at
    → placed (placed (placed (placed out 2 ks) at vs) (2 + i) (k ∷ [])) (at + j) (v ∷ []) ≡ placed (placed out 2 (ks ++ (k ∷ []))) at (vs ++ (v ∷ []))
placed-both ks vs out at k v i j a b l =
    rw (placed-before vs (placed out 2 ks) at (2 + i) k l, a, b, placed-append ks (k ∷ []) out 2) (placed-append vs (v ∷ []) (placed out 2 (ks ++ (k ∷ []))) at)

-- ---- how many are kept

pub count_none : (f : ℕ → Bool) → 0 ≡ count f 0
unfolding count
count_none f = refl

module _ (f : ℕ → Bool) (i : ℕ) {n : ℕ} (c : n ≡ count f i) where
  pub count-hit : f i ≡ true → n + 1 ≡ count f (i + 1)
  unfolding bit
  count-hit e = sym (count-more f i ∙ rw (e, ← c) refl)

  pub count-miss : f i ≡ false → n ≡ count f (i + 1)
  unfolding bit
  count-miss e = sym (count-more f i ∙ rw (e, ← c) (omega arith))

module _ {net sheet : List ℕ} (r : Readable net sheet) where
  abbrev N : PetriNet
  N = petri_net net

  entries_are : length (keys (petri_net net) (trimmed_graph (graph (petri_net net) sheet))) ≡ count (entry_kept (petri_net net) sheet) (entry_count sheet)
  entries_are = kept-entries N sheet r.arcs.sizes.some_transition r.arcs.sizes.some_place (words net sheet r)

  pub counted : {entries : ℕ} (i : ℕ) → i ≡ entry_count sheet → entries ≡ count (entry_kept (petri_net net) sheet) i → Counted net sheet entries
  counted i e c = record {
    are = c ∙ rw e (sym entries_are);
    few = omega (arith, c, count-le (entry_kept N sheet) i, e, r.arcs.sizes.few_entries);
  }

  -- an entry that is kept has a place
  pub place-left : {entries : ℕ} (i : ℕ) → Counted net sheet entries → entry_kept (petri_net net) sheet i ≡ true → i < entry_count sheet
      → count (entry_kept (petri_net net) sheet) i < entries
  place-left i c k l = omega (arith, c.are, entries_are, rank_less (entry_kept N sheet) (entry_count sheet) i l k)

-- ---- the turns of the loop

-- behind V and K, after i entries
module _ (net sheet out : List ℕ) (entries : ℕ) where
  pub record Written (i done : ℕ) (out' : List ℕ) : Type 0 where
    pub counted : done ≡ count (entry_kept (petri_net net) sheet) i
    pub held : out' ≡ placed (placed out 2 (gather (kept_key (petri_net net) sheet) i)) (2 + entries) (gather (kept_value (petri_net net) sheet) i)

  pub written_none : Written 0 0 out
  unfolding gather placed
  written_none = record { counted = count_none _; held = refl }

  module _ {i done : ℕ} {out' : List ℕ} (w : Written i done out') where
    abbrev ks : List ℕ
    ks = gather (kept_key (petri_net net) sheet) i

    abbrev vs : List ℕ
    vs = gather (kept_value (petri_net net) sheet) i

    pub written-length : length out' ≡ length out
    written-length = ap length w.held ∙ placed-length _ _ _ ∙ placed-length _ _ _

    pub written-hit : Readable net sheet → Counted net sheet entries → entry_kept (petri_net net) sheet i ≡ true → i < entry_count sheet
        → {k v : ℕ} {out₁ out₂ : List ℕ} → k ≡ new_key (petri_net net) sheet i → v ≡ new_value (petri_net net) sheet i
        → out₁ ≡ placed out' (2 + done) (k ∷ []) → out₂ ≡ placed out₁ (2 + entries + done) (v ∷ []) → Written (i + 1) (done + 1) out₂
    written-hit r c e l {k} {v} ek ev o₁ o₂ = record {
      counted = count-hit _ _ w.counted e;
      held = o₂ ∙ rw (o₁, w.held, gather-more (kept_key (petri_net net) sheet) i, gather-more (kept_value (petri_net net) sheet) i, key-is, value-is)
          (placed-both ks vs out (2 + entries) k v done done (w.counted ∙ sym (keys-counted (petri_net net) sheet i)) (w.counted ∙ sym (values-counted (petri_net net) sheet i))
          (omega (arith, w.counted, place-left r i c e l)));
    }
      where
        key-is : kept_key (petri_net net) sheet i ≡ some k
        key-is = unfold kept_key in (when-hit _ _ e ∙ ap some (sym ek))

        value-is : kept_value (petri_net net) sheet i ≡ some v
        value-is = unfold kept_value in (when-hit _ _ e ∙ ap some (sym ev))

    pub written-miss : entry_kept (petri_net net) sheet i ≡ false → Written (i + 1) done out'
    written-miss e = record {
      counted = count-miss _ _ w.counted e;
      held = w.held ∙ rw (gather-more (kept_key (petri_net net) sheet) i, gather-more (kept_value (petri_net net) sheet) i, key-is, value-is, append-nil ks, append-nil vs) refl;
    }
      where
        key-is : kept_key (petri_net net) sheet i ≡ none
        key-is = unfold kept_key in (when-miss _ _ e)

        value-is : kept_value (petri_net net) sheet i ≡ none
        value-is = unfold kept_value in (when-miss _ _ e)

-- ---- the end

module _ {net sheet : List ℕ} (r : Readable net sheet) {entries : ℕ} (c : Counted net sheet entries) where
  words_are : kept_words (petri_net net) sheet ≡ trimmed_words net sheet
  unfolding trimmed_words
  words_are = kept-words (petri_net net) sheet r.arcs.sizes.some_transition r.arcs.sizes.some_place (words net sheet r)

  pub sheet-length : length (trimmed_words net sheet) ≡ 2 + 2 * entries
  unfolding trimmed_words
  sheet-length = encoded-length _ _ ∙ rw (encoded-entries (petri_net net) (trimmed_graph (graph (petri_net net) sheet)), c.are)

  pub written_all : (out : List ℕ) {found i : ℕ} {out₁ out₂ out' : List ℕ} → found ≡ (trimmed_graph (graph (petri_net net) sheet)).nodes → i ≡ entry_count sheet
      → out₁ ≡ placed out 0 (found ∷ []) → out₂ ≡ placed out₁ 1 (entries ∷ []) → {done : ℕ} → Written net sheet out₂ entries i done out' → out' ≡ placed out 0 (trimmed_words net sheet)
  written_all out {found} {i} {out₁} {out₂} {out'} f e a b {done} w =
      w.held ∙ rw (e, head, f, count-is, placed-append ks vs (placed out 0 (M ∷ length ks ∷ [])) 2, placed-append (M ∷ length ks ∷ []) (ks ++ vs) out 0) (ap (placed out 0) (sym whole ∙ words_are))
    where
      ks : List ℕ
      ks = gather (kept_key (petri_net net) sheet) (entry_count sheet)

      vs : List ℕ
      vs = gather (kept_value (petri_net net) sheet) (entry_count sheet)

      M : ℕ
      M = (trimmed_graph (graph (petri_net net) sheet)).nodes

      head : out₂ ≡ placed out 0 (found ∷ entries ∷ [])
      head = b ∙ rw a (placed-append (found ∷ []) (entries ∷ []) out 0)

      count-is : entries ≡ length ks
      count-is = c.are ∙ entries_are r ∙ sym (keys-counted (petri_net net) sheet (entry_count sheet))

      whole : kept_words (petri_net net) sheet ≡ M ∷ length ks ∷ (ks ++ vs)
      whole = unfold kept_words in refl

-- ---- the list

module _ {net sheet cells : List ℕ} (h : NewCells net sheet cells) (n : ℕ) (l : n < node_count sheet) where
  passes : is_kept (graph (petri_net net) sheet) n ≡ true → passing (is_kept (graph (petri_net net) sheet)) n ≡ some n
  unfolding passing
  passes e = when-hit _ _ e

  module _ {list list₁ : List ℕ} {next : ℕ} (a : Appended list 0 (gather (passing (is_kept (graph (petri_net net) sheet))) n) next list₁) where
    pub list_hit : 0 < get_or cells n 0 → {r : ℕ} {list₂ : List ℕ} → Appended list₁ next (n ∷ []) r list₂
        → Appended list 0 (gather (passing (is_kept (graph (petri_net net) sheet))) (n + 1)) r list₂
    list_hit k b = gathered-hit (passing (is_kept (graph (petri_net net) sheet))) n a (passes (cell-kept _ n (h.cell n l) k)) b

    pub list_miss : get_or cells n 0 ≤ 0 → Appended list 0 (gather (passing (is_kept (graph (petri_net net) sheet))) (n + 1)) next list₁
    list_miss k = gathered-miss (passing (is_kept (graph (petri_net net) sheet))) n a (unfold passing in (when-miss _ _ (cell-dropped _ n (h.cell n l) k)))

pub list_all : (net sheet : List ℕ) {list list' : List ℕ} {n r : ℕ} → n ≡ node_count sheet → Appended list 0 (gather (passing (is_kept (graph (petri_net net) sheet))) n) r list'
    → list' ≡ placed list 0 (kept_list net sheet)
unfolding kept_list old_numbers
list_all net sheet {list} e a = a.held ∙ rw e refl

pub list_length : {net sheet cells : List ℕ} {found : ℕ} → NewNodes net sheet cells found → length (kept_list net sheet) ≡ found
unfolding kept_list
list_length {net} {sheet} h = sym (h.found_is ∙ trimmed-nodes (graph (petri_net net) sheet))
