-- Laws of stamps: one more before the first entry changes nothing but that entry's stamps; stamps begin no page.
use Rattle.std.proofs.Math.Path.{◌≡◌, refl}
use Rattle.std.proofs.Common.{ap, arith}
use Rattle.std.specs.Prelude.{true, List, [], ◌∷◌, ℕ}
use Rattle.rules.specs.declared.Entry.{Entry}
use Rattle.rules.specs.Chain.{Link}
use Rattle.rules.specs.Tree.{Label, Items, end, page, file, dir, Token, entry, stamp_tokens, tokens, token_links, own_pages, inner_pages, keys}
use Rattle.rules.specs.Owners.{OwnerRecord, file_count, directory_count, own_entries}
use Rattle.rules.specs.Listing.{lines_of}
use Rattle.rules.specs.Check.{stamp, followed}

module _ (s : Entry) where
  pub stamp_own : (t : Items) → own_pages (stamp s t) ≡ own_pages t
  stamp_own end = refl
  stamp_own (page p t) = refl
  stamp_own (file l ls t) = refl
  stamp_own (dir l d t) = refl

  pub stamp_inner : (t : Items) → inner_pages (stamp s t) ≡ inner_pages t
  stamp_inner end = refl
  stamp_inner (page p t) = refl
  stamp_inner (file l ls t) = refl
  stamp_inner (dir l d t) = refl

  pub stamp_keys : (t : Items) → keys (stamp s t) ≡ keys t
  stamp_keys end = refl
  stamp_keys (page p t) = refl
  stamp_keys (file l ls t) = refl
  stamp_keys (dir l d t) = refl

  pub stamp_files : (t : Items) → file_count (stamp s t) ≡ file_count t
  stamp_files end = refl
  stamp_files (page p t) = refl
  stamp_files (file l ls t) = refl
  stamp_files (dir l d t) = refl

  pub stamp_directories : (t : Items) → directory_count (stamp s t) ≡ directory_count t
  stamp_directories end = refl
  stamp_directories (page p t) = refl
  stamp_directories (file l ls t) = refl
  stamp_directories (dir l d t) = refl

  pub stamp_owners : (k : ℕ) (t : Items) (table : List OwnerRecord) → own_entries k (stamp s t) table ≡ own_entries k t table
  stamp_owners k end table = refl
  stamp_owners k (page p t) table = refl
  stamp_owners k (file l ls t) table = refl
  stamp_owners k (dir l d t) table = refl

  pub stamp_lines : (level : ℕ) (t : Items) → lines_of level (stamp s t) ≡ lines_of level t
  stamp_lines level end = refl
  stamp_lines level (page p t) = refl
  stamp_lines level (file l ls t) = refl
  stamp_lines level (dir l d t) = refl

  -- where an entry comes first, it has one stamp more
  pub stamp_tokens_lem : (t : Items) → followed (tokens t) ≡ true → tokens (stamp s t) ≡ entry s ∷ tokens t
  unfolding followed
  stamp_tokens_lem end h = absurd (let z : ◌≡◌ {A = ℕ} 0 1 = cc in omega arith)
  stamp_tokens_lem (page p t) h = absurd (let z : ◌≡◌ {A = ℕ} 0 1 = cc in omega arith)
  stamp_tokens_lem (file l ls t) h = refl
  stamp_tokens_lem (dir l d t) h = refl

-- stamps begin no page
pub stamps_links : (n : ℕ) (control : List ℕ) (ss : List Entry) (ts : List Token) → token_links n control (stamp_tokens ss ts) ≡ token_links n control ts
stamps_links n control [] ts = refl
stamps_links n control (s ∷ ss) ts = stamps_links n control ss ts

-- an entry with its stamps begins no page
pub group_links : (n : ℕ) (control : List ℕ) (l : Label) (e : Entry) (ts : List Token) → token_links n control (stamp_tokens l.stamps (entry e ∷ ts)) ≡ token_links n control ts
group_links n control l e ts = stamps_links n control l.stamps (entry e ∷ ts)

-- after stamps and before an entry, an entry comes next
pub stamps_followed : (ss : List Entry) (e : Entry) (ts : List Token) → followed (stamp_tokens ss (entry e ∷ ts)) ≡ true
unfolding followed
stamps_followed [] e ts = refl
stamps_followed (s ∷ ss) e ts = refl

-- all the stamps of a label, put before its entry one by one
abbrev pub stamp_all : List Entry → Items → Items
stamp_all [] t = t
stamp_all (s ∷ ss) t = stamp s (stamp_all ss t)

abbrev pub with_stamps : List Entry → Label → Label
with_stamps ss l = record { name = l.name; extension = l.extension; stamps = ss }

pub all_file : (ss : List Entry) (l : Label) (ls : List Link) (t : Items) → stamp_all ss (file (with_stamps [] l) ls t) ≡ file (with_stamps ss l) ls t
all_file [] l ls t = refl
all_file (s ∷ ss) l ls t = ap (stamp s) (all_file ss l ls t)

pub all_dir : (ss : List Entry) (l : Label) (d t : Items) → stamp_all ss (dir (with_stamps [] l) d t) ≡ dir (with_stamps ss l) d t
all_dir [] l d t = refl
all_dir (s ∷ ss) l d t = ap (stamp s) (all_dir ss l d t)
