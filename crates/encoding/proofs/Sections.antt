-- The words of an automaton as code writes them: each section row by row; V, K and the sections one behind the other.
use Rattle.scan.proofs.Basics.{ℕ, ◌+◌, ◌≡◌, refl, sym, ap, ◌∙◌, List, [], ◌∷◌, ◌++◌, length}
use Rattle.scan.specs.Placed.{placed}
use Rattle.automaton.specs.Automaton.{Automaton}
use Rattle.sequential.specs.Petri.{PetriNet}
use Rattle.encoding.specs.Encoding.{keys, encode}
use Rattle.encoding.specs.Rows.{Appended, section_to, section_of}
use Rattle.encoding.specs.declared.Section.{Section}
use Rattle.encoding.specs.declared.Section.TheVariants.{ArcKeys, CountKeys, Numbers, Counts}
use Rattle.encoding.proofs.Rows.{appended-none, appended-more, section-none, encode-sections, keys-sections}

module _ (N : PetriNet) (A : Automaton) where
  pub rows_none : (section : Section) (out : List ℕ) (at : ℕ) → Appended out at (section_to N A section 0) at out
  rows_none section out at = rw (section-none N A section) (appended-none out at)

  pub entries_none : 0 ≡ length (section_to N A ArcKeys 0) + length (section_to N A CountKeys 0)
  entries_none = rw (section-none N A ArcKeys, section-none N A CountKeys) refl

  module _ {nodes : ℕ} (size : A.nodes ≡ nodes) where
    rows_whole : (section : Section) → section_to N A section nodes ≡ section_of N A section
    unfolding section_of
    rows_whole section = rw size refl

    pub rows_all : (section : Section) (i : ℕ) {out out' : List ℕ} {at r : ℕ} → i ≡ nodes → Appended out at (section_to N A section i) r out' → Appended out at (section_of N A section) r out'
    rows_all section i e a = rw (← rows_whole section, ← e) a

    pub entries-all : (i : ℕ) → i ≡ nodes → length (section_to N A ArcKeys i) + length (section_to N A CountKeys i) ≡ length (keys N A)
    entries-all i e = rw (e, rows_whole ArcKeys, rows_whole CountKeys) (sym (keys-sections N A))

    pub words-written : (entries : ℕ) → entries ≡ length (keys N A) → {out out₁ out₂ out₃ out₄ out₅ out' : List ℕ} {n₁ n₂ n₃ n₄ n₅ r : ℕ}
        → Appended out 0 (nodes ∷ []) n₁ out₁ → Appended out₁ n₁ (entries ∷ []) n₂ out₂ → Appended out₂ n₂ (section_of N A ArcKeys) n₃ out₃
        → Appended out₃ n₃ (section_of N A CountKeys) n₄ out₄ → Appended out₄ n₄ (section_of N A Numbers) n₅ out₅ → Appended out₅ n₅ (section_of N A Counts) r out'
        → out' ≡ placed out 0 (encode N A)
    words-written entries e {out} a b c d f g =
        (appended-more a (appended-more b (appended-more (appended-more c d) (appended-more f g)))).held
        ∙ ap (placed out 0) (ap (λ (v : ℕ). v ∷ entries ∷ sections) (sym size) ∙ ap (λ (k : ℕ). A.nodes ∷ k ∷ sections) e ∙ sym (encode-sections N A))
      where
        sections : List ℕ
        sections = (section_of N A ArcKeys ++ section_of N A CountKeys) ++ (section_of N A Numbers ++ section_of N A Counts)
