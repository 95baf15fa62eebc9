-- What the code takes a path apart into: its parts lie within its bytes; a file's path has a file's extension, a directory's that of a directory.
use Rattle.std.specs.Prelude.{Ok}
use mathlib.Core.Path.{◌≡◌, ap, sym, ◌∙◌}
use mathlib.Core.List.{List}
use Prim.Native.Nat.{ℕ, ◌-◌, ◌/◌, ◌≤◌, ◌*◌}
use native.Mathlib.Omega.{arith}
use lib.ListN.{length}
use borrow.Author.Tests.{leb-true}
use Rattle.rules.specs.Result.{Res, ok}
use Rattle.rules.proofs.ResultLaws.{ok_inj, on_refuse}
use Rattle.rules.specs.Paths as paths
use Rattle.rules.specs.Paths.{names_in, path_of, directory_path_of}
use Rattle.lookup.specs.declared.path.Parsed.{Parsed}
use Rattle.lookup.specs.ParsedPath.{parsed_path}
use Rattle.lookup.proofs.Cases.{length_names}

-- its directories are the names that its bytes begin with
abbrev pub Names : List ℕ → paths.Path → Type 0
Names b x = x.directories ≡ names_in (length b / 4 - 1) b

file_names : (b : List ℕ) (x : paths.Path) → path_of b ≡ ok x → Names b x
unfolding path_of
file_names b x i = on_refuse _ _ _ _ _ i λ _ i. on_refuse _ _ _ _ _ i λ _ i. on_refuse _ _ _ _ _ i λ h i. ap (λ (y : paths.Path). y.directories) (sym (ok_inj i))

directory_names : (b : List ℕ) (x : paths.Path) → directory_path_of b ≡ ok x → Names b x
unfolding directory_path_of
directory_names b x i = on_refuse _ _ _ _ _ i λ _ i. on_refuse _ _ _ _ _ i λ _ i. ap (λ (y : paths.Path). y.directories) (sym (ok_inj i))

within : (b : List ℕ) (asked : Res paths.Path) → ((x : paths.Path) → asked ≡ ok x → Names b x) → (x : Parsed) → parsed_path b (Ok x) ≡ asked → 4 * x.names ≤ length b
within b asked h x e =
    let k = h _ (sym e) in
    let n : x.names ≡ length b / 4 - 1 = sym (length_names x.names b) ∙ ap length k ∙ length_names (length b / 4 - 1) b in
    omega arith

pub file_within : (b : List ℕ) (r : Parsed) → parsed_path b (Ok r) ≡ path_of b → 4 * r.names ≤ length b
file_within b r e = within b (path_of b) (file_names b) r e

pub directory_within : (b : List ℕ) (r : Parsed) → parsed_path b (Ok r) ≡ directory_path_of b → 4 * r.names ≤ length b
directory_within b r e = within b (directory_path_of b) (directory_names b) r e

pub file_low : (b : List ℕ) (x : paths.Path) → path_of b ≡ ok x → x.extension ≤ 99
unfolding path_of
file_low b x i = on_refuse _ _ _ _ _ i λ _ i. on_refuse _ _ _ _ _ i λ _ i. on_refuse _ _ _ _ _ i λ h i. rw (ap (λ (y : paths.Path). y.extension) (sym (ok_inj i))) (leb-true _ 99 h)

pub directory_extension : (b : List ℕ) (x : paths.Path) → directory_path_of b ≡ ok x → x.extension ≡ 127
unfolding directory_path_of
directory_extension b x i = on_refuse _ _ _ _ _ i λ _ i. on_refuse _ _ _ _ _ i λ _ i. ap (λ (y : paths.Path). y.extension) (sym (ok_inj i))
