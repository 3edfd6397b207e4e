-- The enums of the code in the words of document 01, case by case. The contracts are stated through these.
use Rattle.std.specs.Prelude.{Bool, Result, Ok, Err}
use Rattle.std.proofs.Math.Option.{Option, none, some}
use Rattle.refusal.specs.declared.Refusal.{Refusal}
use Rattle.refusal.specs.Refusals.{◌carrying◌, Answered, served, refused, paper}
use Rattle.replies.specs.declared.ReadReply.{ReadReply}
use Rattle.replies.specs.declared.ReadReply.TheVariants as read
use Rattle.replies.specs.Reader.{Got, value, text}

-- a reply read, and bit 7 where it is reported
abbrev pub paper_got : ReadReply → Answered Got × Option Bool
paper_got (read.Value reply bit7) = (served (value reply), some bit7)
paper_got (read.Text place length bit7) = (served (text place length), some bit7)
paper_got (read.Failed code bit7) = (refused (15 carrying code), some bit7)

abbrev pub paper_read : Result ReadReply Refusal → Answered Got × Option Bool
paper_read (Ok got) = paper_got got
paper_read (Err r) = (refused (paper r), none)
