-- Words, numbers and items, worked out.
use Rattle.proof_code.proofs.Words.{◌≡◌, true, [], ◌∷◌, codes, None, Some, refl, arith, words_of, Cite, Recall, Mark, IsNumber, number_of, items_of, letters_of, numbers_from, is_unfinished, is_compressed, WritesFinishedNormal, WritesFinishedCompressed}

-- ---- the order of the words (Metamath, appendix B)

-- A is the first word
first_word : IsNumber (codes "A") 1
first_word = refl

-- T is the last word of one letter
last_of_one_letter : IsNumber (codes "T") 20
last_of_one_letter = refl

-- UA follows T
first_of_two_letters : IsNumber (codes "UA") 21
first_of_two_letters = refl

-- twenty words of two letters begin with U, and UT is the last of them
last_after_u : IsNumber (codes "UT") 40
last_after_u = refl

-- VA follows UT
first_after_v : IsNumber (codes "VA") 41
first_after_v = refl

-- there are a hundred words of two letters
last_of_two_letters : IsNumber (codes "YT") 120
last_of_two_letters = refl

-- UUA follows YT
first_of_three_letters : IsNumber (codes "UUA") 121
first_of_three_letters = refl

-- there are five hundred words of three letters
last_of_three_letters : IsNumber (codes "YYT") 620
last_of_three_letters = refl

-- the formula gives the same as the order
formula_of_three_letters : number_of (codes "YYT") ≡ Some 620
formula_of_three_letters = refl

-- a word must end with one of A to T
cut_word_has_no_number : number_of (codes "U") ≡ None
cut_word_has_no_number = refl

-- ---- letters

-- a space between two words has the same effect as one inside a word
spaces_cut_letters_anywhere : numbers_from 130 0 (letters_of (codes "TU AYTU UA")) ≡ Some (20 ∷ 21 ∷ 120 ∷ 121 ∷ [])
spaces_cut_letters_anywhere = refl

-- the word has the number 131, one more than the limit
word_past_the_limit : numbers_from 130 0 (codes "UUK") ≡ None
word_past_the_limit = refl

-- with one label, a mark lets B recall the marked result
mark_gives_one_number_more : numbers_from 1 0 (codes "AZB") ≡ Some (1 ∷ 0 ∷ 2 ∷ [])
mark_gives_one_number_more = refl

-- a recall before its mark is over the limit
recall_before_its_mark : numbers_from 1 0 (codes "ABZ") ≡ None
recall_before_its_mark = refl

-- a Z may not follow a U
mark_inside_a_word : numbers_from 130 0 (codes "AUZA") ≡ None
mark_inside_a_word = refl

-- ---- items

-- `( b ) AB ZBC` with one mandatory label: cite a, cite b, mark, cite b, recall the marked result
compressed : WritesFinishedCompressed (words_of (codes "( b ) AB ZBC")) (codes "a" ∷ []) (Cite (codes "a") ∷ Cite (codes "b") ∷ Mark ∷ Cite (codes "b") ∷ Recall 1 ∷ [])
compressed = (
  refl,
  record {
    listed = codes "b" ∷ [];
    rest = words_of (codes "AB ZBC");
    whole = refl;
    labels = refl;
    none_shared = refl;
    letters = record {
      row = words_of (codes "A B Z B C");
      whole = refl;
      means = (1, refl, (0, refl, refl), (2, refl, (1, refl, refl), (refl, (2, refl, (1, refl, refl), (3, refl, (refl, omega arith, omega arith), tt)))));
      starts = refl;
    };
  },
)

-- the same items as numbers over the labels
numbers_over_labels : items_of (codes "a" ∷ codes "b" ∷ []) (1 ∷ 2 ∷ 0 ∷ 2 ∷ 3 ∷ []) ≡ Cite (codes "a") ∷ Cite (codes "b") ∷ Mark ∷ Cite (codes "b") ∷ Recall 1 ∷ []
numbers_over_labels = refl

-- two labels, each of which cites the statement that it names
normal : WritesFinishedNormal (words_of (codes "tt tze")) (Cite (codes "tt") ∷ Cite (codes "tze") ∷ [])
normal = (refl, record { labels = refl; cites = refl })

-- a `?` among the letters leaves the proof unfinished
question_mark_is_unfinished : is_unfinished (words_of (codes "( ) A?")) ≡ true
question_mark_is_unfinished = refl

-- a proof that begins with `(` is compressed
parenthesis_is_compressed : is_compressed (words_of (codes "( ) A")) ≡ true
parenthesis_is_compressed = refl
