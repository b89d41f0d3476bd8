-- Lists that are made longer by what stands for nothing.
use Rattle.std.proofs.Common.{◌≡◌, ℕ, zero, suc, List, [], ◌∷◌, ◌++◌, get_or, refl, ap, ◌∙◌}
use Rattle.hy_log.specs.declared.course.Course.{Course}
use Rattle.hy_log.specs.Courses.{fresh, course_in, course_at}

-- what is read past the end of a list can stand there too
get_or-padded : {A : Type 0} (xs : List A) (d : A) (i : ℕ) → get_or (xs ++ d ∷ []) i d ≡ get_or xs i d
get_or-padded [] d zero = refl
get_or-padded [] d (suc i) = refl
get_or-padded (x ∷ xs) d zero = refl
get_or-padded (x ∷ xs) d (suc i) = get_or-padded xs d i

-- a course to which nothing came changes no operation
pub course_in-padded : (courses more : List Course) (o : ℕ) → more ≡ courses ++ fresh ∷ [] → course_in more o ≡ course_in courses o
course_in-padded courses more o is = ap (λ (x : List Course). course_in x o) is ∙ get_or-padded courses fresh o

-- nor does a client without operations
pub course_at-padded : (clients more : List (List Course)) (c o : ℕ) → more ≡ clients ++ [] ∷ [] → course_at more c o ≡ course_at clients c o
course_at-padded clients more c o is =
    ap (λ (x : List (List Course)). course_at x c o) is ∙ ap (λ (x : List Course). course_in x o) (get_or-padded clients [] c)
