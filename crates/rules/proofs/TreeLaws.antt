-- A tree by its tokens: its end, a page that begins, an entry. Pages that begin in front of it do not count for its entries.
use Rattle.std.specs.Prelude.{◌≡◌, refl, true, List, [], ◌∷◌, ◌++◌, ℕ, eqb}
use Rattle.std.proofs.Common.{ap, sym, ◌∙◌, subst, append-nil, arith}
use Rattle.geometry.specs.Choose.{choose}
use Rattle.rules.specs.declared.Entry.{Entry}
use Rattle.rules.specs.Chain.{Link}
use Rattle.rules.specs.Tree.{Label, label_of, key_of, Items, end, page, file, dir, file_entry, directory_entry, Token, new_page, entry, entry_tokens, tokens, stamp_tokens}
use Rattle.rules.proofs.StampLaws.{stamps_followed, with_stamps}
use Rattle.rules.specs.Check.{Part, chain, directory, add, stamp, followed}
use Rattle.rules.specs.Listing.{lines_of}
use Rattle.rules.specs.Paths.{Found, a_file, a_directory, find}
use Rattle.rules.specs.TreeLaws.{page_tokens}

-- entries of one page in a row
pub entries_join : (xs ys : List Entry) (ts : List Token) → entry_tokens xs ++ (entry_tokens ys ++ ts) ≡ entry_tokens (xs ++ ys) ++ ts
entries_join [] ys ts = refl
entries_join (x ∷ xs) ys ts = ap (λ (us : List Token). entry x ∷ us) (entries_join xs ys ts)

pub entries_append : (xs ys : List Entry) → entry_tokens xs ++ entry_tokens ys ≡ entry_tokens (xs ++ ys)
entries_append xs ys = ap (λ (ts : List Token). entry_tokens xs ++ ts) (sym (append-nil (entry_tokens ys))) ∙ entries_join xs ys [] ∙ append-nil (entry_tokens (xs ++ ys))

-- ---- its end, a page that begins, an entry
-- stamps and an entry are no end and begin no page
no_end : (ss : List Entry) (e : Entry) (ts : List Token) → stamp_tokens ss (entry e ∷ ts) ≡ [] → ⊥
no_end [] e ts q = let z : ◌≡◌ {A = ℕ} 0 1 = cc in omega arith
no_end (s ∷ ss) e ts q = let z : ◌≡◌ {A = ℕ} 0 1 = cc in omega arith

no_page : (ss : List Entry) (e : Entry) (ts : List Token) (p : ℕ) (us : List Token) → stamp_tokens ss (entry e ∷ ts) ≡ new_page p ∷ us → ⊥
no_page [] e ts p us q = let z : ◌≡◌ {A = ℕ} 0 1 = cc in omega arith
no_page (s ∷ ss) e ts p us q = let z : ◌≡◌ {A = ℕ} 0 1 = cc in omega arith

pub no_tokens : (t : Items) → tokens t ≡ [] → t ≡ end
no_tokens end q = refl
no_tokens (page p t) q = absurd (let z : ◌≡◌ {A = ℕ} 0 1 = cc in omega arith)
no_tokens (file l ls t) q = absurd (no_end l.stamps (file_entry l ls) (tokens t) q)
no_tokens (dir l d t) q = absurd (no_end l.stamps (directory_entry l d) (tokens t) q)

pub record PageFirst (p : ℕ) (ts : List Token) (t : Items) : Type 0 where
  pub rest : Items
  pub is : t ≡ page p rest
  pub left : tokens rest ≡ ts

pub page_first : (p : ℕ) (ts : List Token) (t : Items) → tokens t ≡ new_page p ∷ ts → PageFirst p ts t
page_first p ts end q = absurd (let z : ◌≡◌ {A = ℕ} 0 1 = cc in omega arith)
page_first p ts (page x t) q = let i : x ≡ p = cc in record { rest = t; is = ap (λ (y : ℕ). page y t) i; left = cc }
page_first p ts (file l ls t) q = absurd (no_page l.stamps (file_entry l ls) (tokens t) p ts q)
page_first p ts (dir l d t) q = absurd (no_page l.stamps (directory_entry l d) (tokens t) p ts q)

-- the entry of what stands under it
abbrev pub part_entry : Label → Part → Entry
part_entry l (chain ls) = file_entry l ls
part_entry l (directory d) = directory_entry l d

-- an entry comes first: it is a stamp of the entry after it, or has none itself
pub data EntryFirst (e : Entry) (ts : List Token) (t : Items) : Type 0 where
  stamped : (rest : Items) → t ≡ stamp e rest → followed ts ≡ true → tokens rest ≡ ts → EntryFirst e ts t
  plain : (part : Part) (rest : Items) → t ≡ add e part rest → e ≡ part_entry (label_of e) part → tokens rest ≡ ts → EntryFirst e ts t

-- the first entry's stamps, then itself
first_file : (ss : List Entry) (l : Label) (ls : List Link) (t : Items) (e : Entry) (ts : List Token) → stamp_tokens ss (entry (file_entry l ls) ∷ tokens t) ≡ entry e ∷ ts → EntryFirst e ts (file (with_stamps ss l) ls t)
first_file [] l ls t e ts q =
    let i : file_entry l ls ≡ e = cc in
    let j : tokens t ≡ ts = cc in
    subst (λ (x : Entry). EntryFirst x ts (file (with_stamps [] l) ls t)) i (plain (chain ls) t refl refl j)
first_file (s ∷ ss) l ls t e ts q =
    let i : s ≡ e = cc in
    let j : stamp_tokens ss (entry (file_entry l ls) ∷ tokens t) ≡ ts = cc in
    subst (λ (x : Entry). EntryFirst x ts (file (with_stamps (s ∷ ss) l) ls t)) i
    (stamped (file (with_stamps ss l) ls t) refl (subst (λ (us : List Token). followed us ≡ true) j (stamps_followed ss (file_entry l ls) (tokens t))) j)

first_dir : (ss : List Entry) (l : Label) (d t : Items) (e : Entry) (ts : List Token) → stamp_tokens ss (entry (directory_entry l d) ∷ tokens t) ≡ entry e ∷ ts → EntryFirst e ts (dir (with_stamps ss l) d t)
first_dir [] l d t e ts q =
    let i : directory_entry l d ≡ e = cc in
    let j : tokens t ≡ ts = cc in
    subst (λ (x : Entry). EntryFirst x ts (dir (with_stamps [] l) d t)) i (plain (directory d) t refl refl j)
first_dir (s ∷ ss) l d t e ts q =
    let i : s ≡ e = cc in
    let j : stamp_tokens ss (entry (directory_entry l d) ∷ tokens t) ≡ ts = cc in
    subst (λ (x : Entry). EntryFirst x ts (dir (with_stamps (s ∷ ss) l) d t)) i
    (stamped (dir (with_stamps ss l) d t) refl (subst (λ (us : List Token). followed us ≡ true) j (stamps_followed ss (directory_entry l d) (tokens t))) j)

pub entry_first : (e : Entry) (ts : List Token) (t : Items) → tokens t ≡ entry e ∷ ts → EntryFirst e ts t
entry_first e ts end q = absurd (let z : ◌≡◌ {A = ℕ} 0 1 = cc in omega arith)
entry_first e ts (page x t) q = absurd (let z : ◌≡◌ {A = ℕ} 0 1 = cc in omega arith)
entry_first e ts (file l ls t) q = first_file l.stamps l ls t e ts q
entry_first e ts (dir l d t) q = first_dir l.stamps l d t e ts q

pub tokens_add : (e : Entry) (x : Part) (t : Items) → e ≡ part_entry (label_of e) x → tokens (add e x t) ≡ entry e ∷ tokens t
tokens_add e (chain ls) t q = ap (λ (y : Entry). entry y ∷ tokens t) (sym q)
tokens_add e (directory d) t q = ap (λ (y : Entry). entry y ∷ tokens t) (sym q)

-- what is found under its key, and under another
abbrev pub part_found : Label → Part → Found
part_found l (chain ls) = a_file l ls
part_found l (directory d) = a_directory l d

pub find_add : (k : ℕ) (e : Entry) (x : Part) (t : Items) → find k (add e x t) ≡ choose (eqb k (key_of (label_of e))) (part_found (label_of e) x) (find k t)
find_add k e (chain ls) t = refl
find_add k e (directory d) t = refl

-- ---- pages in front: they do not count for the entries
abbrev pub on_pages : List ℕ → Items → Items
on_pages [] t = t
on_pages (p ∷ ps) t = page p (on_pages ps t)

pub record PagesFirst (ps : List ℕ) (ts : List Token) (t : Items) : Type 0 where
  pub rest : Items
  pub is : t ≡ on_pages ps rest
  pub left : tokens rest ≡ ts

pub pages_first : (ps : List ℕ) (ts : List Token) (t : Items) → tokens t ≡ page_tokens ps ++ ts → PagesFirst ps ts t
pages_first [] ts t q = record { rest = t; is = refl; left = q }
pages_first (p ∷ ps) ts t q =
    let a = page_first p (page_tokens ps ++ ts) t q in
    let o = pages_first ps ts a.rest a.left in
    record { rest = o.rest; is = a.is ∙ ap (page p) o.is; left = o.left }

-- there are no others
pub only_pages : (ps : List ℕ) (t : Items) → tokens t ≡ page_tokens ps → t ≡ on_pages ps end
only_pages ps t q = let o = pages_first ps [] t (q ∙ sym (append-nil (page_tokens ps))) in o.is ∙ ap (on_pages ps) (no_tokens o.rest o.left)

pub tokens_pages : (ps : List ℕ) (t : Items) → tokens (on_pages ps t) ≡ page_tokens ps ++ tokens t
tokens_pages [] t = refl
tokens_pages (p ∷ ps) t = ap (λ (ts : List Token). new_page p ∷ ts) (tokens_pages ps t)

pub lines_pages : (level : ℕ) (ps : List ℕ) (t : Items) → lines_of level (on_pages ps t) ≡ lines_of level t
lines_pages level [] t = refl
lines_pages level (p ∷ ps) t = lines_pages level ps t

pub find_pages : (k : ℕ) (ps : List ℕ) (t : Items) → find k (on_pages ps t) ≡ find k t
find_pages k [] t = refl
find_pages k (p ∷ ps) t = find_pages k ps t
