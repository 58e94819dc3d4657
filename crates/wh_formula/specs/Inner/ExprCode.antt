-- An expression's tree as a list of numbers, by which proofs tell two trees apart.
use Rattle.std.specs.Prelude.{◌≡◌, ℕ, zero, suc, List, [], ◌∷◌, ◌++◌, ℤ, pos, negsuc, refl}
use Rattle.std.proofs.Common.{ap, ◌∙◌}
use Rattle.std.specs.Coded.{Coded, code_by, coded_list, coded×, coded_ℕ, coded_ℤ}
use Rattle.wh_formula.specs.Expr.{ExprTree, Column, Number, Add, Sub, Mul}

-- the parts first, then what joins them
abbrev pub written : ExprTree → List (ℕ × ℤ)
written (Column place) = (0, pos place) ∷ []
written (Number n) = (1, n) ∷ []
written (Add a b) = written a ++ (written b ++ (2, pos 0) ∷ [])
written (Sub a b) = written a ++ (written b ++ (3, pos 0) ∷ [])
written (Mul a b) = written a ++ (written b ++ (4, pos 0) ∷ [])

-- the size of a number that is not negative
abbrev pub size_of : ℤ → ℕ
size_of (pos n) = n
size_of (negsuc n) = n

-- joins the last two trees that were read
abbrev pub joined : (ExprTree → ExprTree → ExprTree) → List ExprTree → List ExprTree
joined f (b ∷ (a ∷ read)) = f a b ∷ read
joined f read = read

-- reads one item
abbrev pub read_one : ℕ → ℤ → List ExprTree → List ExprTree
read_one zero z read = Column (size_of z) ∷ read
read_one (suc zero) z read = Number z ∷ read
read_one (suc (suc zero)) z read = joined Add read
read_one (suc (suc (suc zero))) z read = joined Sub read
read_one (suc (suc (suc (suc k)))) z read = joined Mul read

-- reads all items
abbrev pub read_all : List (ℕ × ℤ) → List ExprTree → List ExprTree
read_all [] read = read
read_all (t ∷ ts) read = read_all ts (read_one t.0 t.1 read)

-- the tree that was read last
abbrev pub last_read : List ExprTree → ExprTree
last_read [] = Number (pos 0)
last_read (e ∷ read) = e

-- a list is read part by part
pub read_all-append : (xs ys : List (ℕ × ℤ)) (read : List ExprTree) → read_all (xs ++ ys) read ≡ read_all ys (read_all xs read)
read_all-append [] ys read = refl
read_all-append (x ∷ xs) ys read = read_all-append xs ys (read_one x.0 x.1 read)

-- two parts are read before what joins them
read_all-joined : (t : ℕ × ℤ) (xs ys : List (ℕ × ℤ)) (a b : ExprTree) (read : List ExprTree) → ((r : List ExprTree) → read_all xs r ≡ a ∷ r) → ((r : List ExprTree) → read_all ys r ≡ b ∷ r) → read_all (xs ++ (ys ++ t ∷ [])) read ≡ read_one t.0 t.1 (b ∷ (a ∷ read))
read_all-joined t xs ys a b read ha hb =
    read_all-append xs (ys ++ t ∷ []) read
    ∙ ap (read_all (ys ++ t ∷ [])) (ha read)
    ∙ read_all-append ys (t ∷ []) (a ∷ read)
    ∙ ap (read_all (t ∷ [])) (hb (a ∷ read))

-- what is written of a tree is read as the tree
pub read_all-written : (e : ExprTree) (read : List ExprTree) → read_all (written e) read ≡ e ∷ read
read_all-written (Column place) read = refl
read_all-written (Number n) read = refl
read_all-written (Add a b) read = read_all-joined (2, pos 0) (written a) (written b) a b read (read_all-written a) (read_all-written b)
read_all-written (Sub a b) read = read_all-joined (3, pos 0) (written a) (written b) a b read (read_all-written a) (read_all-written b)
read_all-written (Mul a b) read = read_all-joined (4, pos 0) (written a) (written b) a b read (read_all-written a) (read_all-written b)

-- the tree of which this is written
abbrev pub code : List (ℕ × ℤ) → ExprTree
code ts = last_read (read_all ts [])

pub code-written : (e : ExprTree) → code (written e) ≡ e
code-written e = ap last_read (read_all-written e [])

-- a tree is stored as what is written of it
abbrev pub expr_code : Coded ExprTree
expr_code = code_by (List (ℕ × ℤ)) (coded_list (coded× coded_ℕ coded_ℤ)) written code code-written
