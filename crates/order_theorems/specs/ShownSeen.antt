-- What a path shows decides what is seen there: where the numbers of an entry and of its stamps fit, as in a well-formed image, their bytes tell name, extension byte and stamps.
use Rattle.std.specs.Prelude.{◌≡◌, refl, List, [], ◌∷◌, ℕ, zero, suc, ◌^◌, ◌<◌, length, get_or, take, drop}
use Rattle.std.proofs.Common.{ap, ap₂, sym, ◌∙◌, arith, eq-eqb, ne_eqb, drop_at}
use Rattle.geometry.specs.declared.Geometry.{Geometry}
use Rattle.geometry.specs.ChooseLaws.{choose_true, choose_false}
use Rattle.geometry.specs.Geometry.{entry_size}
use Rattle.geometry.specs.Number.{number}
use Rattle.geometry.specs.NumberLaws.{number_of}
use Rattle.rules.specs.declared.Entry.{Entry}
use Rattle.rules.proofs.ResultLaws.{clash}
use Rattle.rules.proofs.PageSetLaws.{same, other, hits}
use Rattle.rules.proofs.EditLaws.{width_is}
use Rattle.rules.specs.Names.{entry_of, entry_bytes}
use Rattle.rules.specs.Tree.{Label, width, key_of, Items, end, page, file, dir, entry, stamp_tokens, token_bytes, Image}
use Rattle.rules.specs.WellFormed.{Stamps, Entries, WellFormed}
use Rattle.rules.specs.Paths.{Found, nothing, a_file, a_directory, find}
use Rattle.rules.specs.Candidate.{look_up, root_label, at_path}
use Rattle.rules.specs.Calls.{bytes_of}
use Rattle.rules.specs.Demand2.{Shown, shown}
use Rattle.reading_theorems.specs.EntryLaws.{length_entry, entry_back}
use Rattle.editing_theorems.specs.FoundLaws.{entry_some, same_width}
use Rattle.order_theorems.specs.EitherOrder.{file_seen, directory_seen, seen}

-- ---- the label of what stands at a path of a well-formed image fits its bytes
record LabelFits (n : ℕ) (l : Label) : Type 0 where
  pub four : l.name < 256 ^ 4
  pub stamps : Stamps n l.stamps

record DirectoryFits (n : ℕ) (l : Label) (d : Items) : Type 0 where
  pub label : LabelFits n l
  pub levels : ℕ
  pub entries : Entries n levels d

abbrev FoundFits : ℕ → Found → Type 0
FoundFits n nothing = Unit {0}
FoundFits n (a_file l ls) = LabelFits n l
FoundFits n (a_directory l d) = DirectoryFits n l d

find_fits : (n levels k : ℕ) (t : Items) → Entries n levels t → FoundFits n (find k t)
find_fits n levels k end w = tt
find_fits n levels k (page p t) w = find_fits n levels k t w
find_fits n levels k (file l ls t) w = elim (hits k (key_of l)) [
  | same e i ↦ simp (eq-eqb k (key_of l) e, choose_true) (record { four = w.0.four; stamps = w.0.stamps })
  | other e i ↦ simp (ne_eqb k (key_of l) e, choose_false) (find_fits n levels k t w.3)
]
find_fits n zero k (dir l d t) w = absurd w.4
find_fits n (suc levels) k (dir l d t) w = elim (hits k (key_of l)) [
  | same e i ↦ simp (eq-eqb k (key_of l) e, choose_true) (record { label = record { four = w.0.four; stamps = w.0.stamps }; levels = levels; entries = w.4 })
  | other e i ↦ simp (ne_eqb k (key_of l) e, choose_false) (find_fits n (suc levels) k t w.5)
]

path_fits : (n : ℕ) (ks : List ℕ) (f : Found) → FoundFits n f → FoundFits n (look_up ks f)
path_fits n [] f h = h
path_fits n (k ∷ ks) nothing h = tt
path_fits n (k ∷ ks) (a_file l ls) h = tt
path_fits n (k ∷ ks) (a_directory l d) h = path_fits n ks (find k d) (find_fits n h.levels k d h.entries)

root_fits : (g : Geometry) (image : List ℕ) (i : Image) → WellFormed g image i → DirectoryFits g.width root_label i.tree
root_fits g image i w = record { label = record { four = omega arith; stamps = tt }; levels = 8; entries = w.holds.entries }

-- ---- read back from the bytes of an entry with its stamps
module _ (g : Geometry) where
  record SameLabel (ss us : List Entry) (e f : Entry) : Type 0 where
    pub stamps : ss ≡ us
    pub name : e.name ≡ f.name
    pub extension : e.extension ≡ f.extension

  entries_back : (ss us : List Entry) (e f : Entry) → Stamps g.width ss → Stamps g.width us → e.name < 256 ^ 4 → f.name < 256 ^ 4 → length ss ≡ length us
      → token_bytes g.width (stamp_tokens ss (entry e ∷ [])) ≡ token_bytes g.width (stamp_tokens us (entry f ∷ [])) → SameLabel ss us e f
  entries_back [] [] e f a b c d z q = record {
    stamps = refl;
    name = sym (number_of 4 e.name c) ∙ ap (λ (bs : List ℕ). number (take 4 bs)) q ∙ number_of 4 f.name d;
    extension = ap (λ (bs : List ℕ). get_or bs 4 0) q;
  }
  entries_back [] (u ∷ us) e f a b c d z q = absurd (omega (arith, z))
  entries_back (s ∷ ss) [] e f a b c d z q = absurd (omega (arith, z))
  entries_back (s ∷ ss) (u ∷ us) e f a b c d z q =
      let x = token_bytes g.width (stamp_tokens ss (entry e ∷ [])) in
      let y = token_bytes g.width (stamp_tokens us (entry f ∷ [])) in
      let first : s ≡ u = sym (entry_back g.width s x a.1) ∙ ap (entry_of g.width) q ∙ entry_back g.width u y b.1 in
      let rest : x ≡ y = sym (drop_at (entry_bytes g.width s) x (entry_size g) (length_entry g s)) ∙ ap (drop (entry_size g)) q ∙ drop_at (entry_bytes g.width u) y (entry_size g) (length_entry g u) in
      let r = entries_back ss us e f a.2 b.2 c d (omega (arith, z)) rest in
      record { stamps = ap₂ (λ (v : Entry) (vs : List Entry). v ∷ vs) first r.stamps; name = r.name; extension = r.extension }

  -- whatever start page and number of pages the two entries tell
  label_back : (l m : Label) (s c u d : ℕ) → LabelFits g.width l → LabelFits g.width m → width l ≡ width m
      → token_bytes g.width (stamp_tokens l.stamps (entry (record { name = l.name; extension = l.extension; start = s; pages = c }) ∷ []))
      ≡ token_bytes g.width (stamp_tokens m.stamps (entry (record { name = m.name; extension = m.extension; start = u; pages = d }) ∷ [])) → l ≡ m
  label_back l m s c u d a b z q =
      let r = entries_back l.stamps m.stamps (record { name = l.name; extension = l.extension; start = s; pages = c }) (record { name = m.name; extension = m.extension; start = u; pages = d })
      a.stamps b.stamps a.four b.four (omega (arith, width_is l, width_is m, z)) q in
      λ i. record { name = r.name i; extension = r.extension i; stamps = r.stamps i }

  -- a file and a directory, or either and nothing, differ in what a read answers or in that there is an entry
  seen_shown : (f h : Found) → FoundFits g.width f → FoundFits g.width h → shown g f ≡ shown g h → seen f ≡ seen h
  unfolding bytes_of
  seen_shown nothing nothing a b e = refl
  seen_shown nothing (a_file m ms) a b e = clash (ap (λ (x : Shown). x.answer) e)
  seen_shown nothing (a_directory m d) a b e = absurd (omega (arith, ap (λ (x : Shown). length x.entry) e, entry_some g (a_directory m d) tt))
  seen_shown (a_file l ls) nothing a b e = clash (sym (ap (λ (x : Shown). x.answer) e))
  seen_shown (a_file l ls) (a_file m ms) a b e =
      let q = ap (λ (x : Shown). x.entry) e in
      ap₂ file_seen (label_back l m _ _ _ _ a b (same_width g (a_file l ls) (a_file m ms) q) q) (ap (λ (x : Shown). x.bytes) e)
  seen_shown (a_file l ls) (a_directory m d) a b e = clash (sym (ap (λ (x : Shown). x.answer) e))
  seen_shown (a_directory l c) nothing a b e = absurd (omega (arith, ap (λ (x : Shown). length x.entry) e, entry_some g (a_directory l c) tt))
  seen_shown (a_directory l c) (a_file m ms) a b e = clash (ap (λ (x : Shown). x.answer) e)
  seen_shown (a_directory l c) (a_directory m d) a b e =
      let q = ap (λ (x : Shown). x.entry) e in
      ap directory_seen (label_back l m _ _ _ _ a.label b.label (same_width g (a_directory l c) (a_directory m d) q) q)

-- ---- so a path that shows the same in two well-formed images leads to the same in both
pub seen_same : (g : Geometry) (image now : List ℕ) (i j : Image) → WellFormed g image i → WellFormed g now j → (ks : List ℕ) → shown g (at_path ks j) ≡ shown g (at_path ks i)
    → seen (at_path ks j) ≡ seen (at_path ks i)
unfolding at_path
seen_same g image now i j w v ks e =
    seen_shown g (look_up ks (a_directory root_label j.tree)) (look_up ks (a_directory root_label i.tree))
    (path_fits g.width ks (a_directory root_label j.tree) (root_fits g now j v)) (path_fits g.width ks (a_directory root_label i.tree) (root_fits g image i w)) e
