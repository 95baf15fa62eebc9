-- Entries as the code reads and writes them.
use mathlib.Core.Path.{◌≡◌, refl, sym, ap, ◌∙◌}
use mathlib.Core.Bool.{Bool, true, false, not}
use mathlib.Core.List.{List, [], ◌∷◌, ◌++◌, append_assoc}
use Prim.Native.Nat.{ℕ, ◌+◌, ◌*◌, ◌%◌, ◌^◌, ◌≤◌, ◌<◌}
use native.Mathlib.Nat.{pow-le-pow_right}
use native.Mathlib.Omega.{arith}
use lib.ListN.{length, get_or, take, drop, length-append}
use lib.Seq.{drop-drop, get_or-drop}
use borrow.Author.Tests.{le-ltb, lt-ltb, eq-eqb, ne_eqb, not-true, not-false}
use Rattle.std.specs.Prelude.{Ok, Err}
use Rattle.refusals.specs.declared.Fault.TheVariants.{Name, Extension, Count}
use Rattle.geometry.specs.declared.Geometry.{Geometry}
use Rattle.geometry.specs.Geometry.{entry_size}
use Rattle.geometry.specs.Number.{number, number_bytes}
use Rattle.geometry.specs.NumberLaws.{length_number}
use Rattle.geometry.specs.Page.{overwritten}
use Rattle.packet.proofs.Fronts.{front, front_more, front_whole}
use Rattle.rules.specs.declared.Entry.{Entry}
use Rattle.rules.specs.Result.{ok, and_then, refuse_unless}
use Rattle.rules.specs.Answers.{answer_of}
use Rattle.rules.specs.Names.{valid_name, extended, entry_of, entry_bytes}
use Rattle.rules.specs.Control.{whole_entries}
use Rattle.rules.specs.Check.{judge_label}
use Rattle.directory.specs.declared.extensions.EntryKind.TheVariants as kind
use Rattle.directory.specs.Extensions.{IsKind}
use Rattle.directory.specs.Faults.{AreWhole}

-- a page number fits 16 bits
pub narrow : (x n : ℕ) → n ≤ 2 → x < 256 ^ n → x < 65536
narrow x n h b = let p : 256 ^ n ≤ 256 ^ 2 = pow-le-pow_right (omega arith) h in omega arith

-- the entry at a place, from its four parts as the code reads them
pub entry_is : (at n name extension start pages : ℕ) (b : List ℕ)
    → name ≡ number (take 4 (drop at b)) → extension ≡ get_or b (at + 4) 0
    → start ≡ number (take n (drop (at + 5) b)) → pages ≡ number (take n (drop (at + 5 + n) b))
    → ◌≡◌ {A = Entry} (record { name = name; extension = extension; start = start; pages = pages }) (entry_of n (drop at b))
entry_is at n name extension start pages b e₁ e₂ e₃ e₄ =
    let i : at + (5 + n) ≡ at + 5 + n = omega arith in
    let q₂ : extension ≡ get_or (drop at b) 4 0 = e₂ ∙ sym (get_or-drop at b 4 0) in
    let q₃ : start ≡ number (take n (drop 5 (drop at b))) = e₃ ∙ rw (drop-drop 5 at b) refl in
    let q₄ : pages ≡ number (take n (drop (5 + n) (drop at b))) = e₄ ∙ rw (drop-drop (5 + n) at b, i) refl in
    cc

-- an entry's bytes, written in four parts as the code does it
module _ (e : Entry) (n : ℕ) (b b₀ b₁ b₂ b₃ : List ℕ) (h : (length b ≡ 5 + 2 * n) × (n ≤ 2)) (x : e.extension < 256)
    (e₀ : b₀ ≡ overwritten 0 (number_bytes 4 e.name) b) (e₁ : b₁ ≡ overwritten 4 (number_bytes 1 e.extension) b₀)
    (e₂ : b₂ ≡ overwritten 5 (number_bytes n e.start) b₁) (e₃ : b₃ ≡ overwritten (5 + n) (number_bytes n e.pages) b₂) where
  abbrev label : List ℕ
  label = number_bytes 4 e.name ++ (e.extension ∷ [])

  is₀ : b₀ ≡ front (number_bytes 4 e.name) b
  is₀ = e₀ ∙ front_more [] (number_bytes 4 e.name) b 0 refl

  is₁ : b₁ ≡ front label b
  is₁ =
      let i : e.extension % 256 ≡ e.extension = omega (arith, x) in
      e₁ ∙ rw is₀ (front_more (number_bytes 4 e.name) (number_bytes 1 e.extension) b 4 refl) ∙ ap (λ (y : ℕ). front (number_bytes 4 e.name ++ (y ∷ [])) b) i

  is₂ : b₂ ≡ front (label ++ number_bytes n e.start) b
  is₂ = e₂ ∙ rw is₁ (front_more label (number_bytes n e.start) b 5 refl)

  pub entry_filled : b₃ ≡ entry_bytes n e
  entry_filled =
      let s = number_bytes n e.start in
      let c = number_bytes n e.pages in
      let l : length (label ++ s) ≡ 5 + n = length-append label s ∙ ap (λ (k : ℕ). 5 + k) (length_number n e.start) in
      let w : length (entry_bytes n e) ≡ length b = simp (length-append, length_number) (omega (arith, h.0)) in
      e₃ ∙ rw is₂ (front_more (label ++ s) c b (5 + n) l) ∙ ap (λ (xs : List ℕ). front xs b) (append_assoc label s c) ∙ front_whole (entry_bytes n e) b w

-- the first byte tells an extended entry
module _ (e : Entry) where
  pub high_byte : 127 < e.name % 256 → extended e ≡ true
  unfolding extended
  high_byte h = lt-ltb 127 (e.name % 256) h

  pub low_byte : e.name % 256 ≤ 127 → extended e ≡ false
  unfolding extended
  low_byte h = le-ltb 127 (e.name % 256) h

-- a plain entry's tests, one after the other
module _ (p : ℕ) (e : Entry) (t : Bool) (q : t ≡ valid_name e.name) where
  pub bad_name : not t ≡ true → answer_of (Err (record { 0 = Name; 1 = p })) ≡ judge_label p e
  unfolding judge_label and_then refuse_unless
  bad_name k = simp (judge_label, ← q, not-true t k)

  module _ (k : not t ≡ false) where
    named : valid_name e.name ≡ true
    named = sym q ∙ not-false t k

    pub file_label_lem : IsKind e.extension kind.File → ok tt ≡ judge_label p e
    unfolding judge_label and_then refuse_unless
    file_label_lem l = simp (judge_label, named, l.0)

    pub directory_label : IsKind e.extension kind.Directory → ok tt ≡ judge_label p e
    unfolding judge_label and_then refuse_unless
    directory_label l = simp (judge_label, named, l.0, l.1)

    pub unknown_label : IsKind e.extension kind.Unknown → answer_of (Err (record { 0 = Extension; 1 = p })) ≡ judge_label p e
    unfolding judge_label and_then refuse_unless
    unknown_label l = simp (judge_label, named, l.0, l.1)

module _ (g : Geometry) (p size k : ℕ) (q : k ≡ entry_size g) where
  pub are_whole : size % k ≡ 0 → AreWhole g p size (Ok tt)
  unfolding whole_entries refuse_unless
  are_whole e b l = simp (whole_entries, l, ← q, eq-eqb (size % k) 0 e)

  pub not_whole : (size % k ≡ 0 → ⊥) → AreWhole g p size (Err (record { 0 = Count; 1 = p }))
  unfolding whole_entries refuse_unless
  not_whole e b l = simp (whole_entries, l, ← q, ne_eqb (size % k) 0 e)
