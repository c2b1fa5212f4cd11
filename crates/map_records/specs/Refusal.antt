-- 'Refusal numbers': document 01's names for them. Assumes nothing: these are definitions.
use Rattle.std.specs.Prelude.{ℕ}
use Rattle.map_records.specs.declared.refusal.Refusal.{Refusal}
use Rattle.map_records.specs.declared.refusal.Refusal.TheVariants as refusal

abbrev pub SHORT : ℕ
SHORT = 1

abbrev pub NUMBER : ℕ
NUMBER = 2

abbrev pub COUNT : ℕ
COUNT = 3

abbrev pub KIND : ℕ
KIND = 4

abbrev pub TAIL : ℕ
TAIL = 5

abbrev pub FIELD : ℕ
FIELD = 6

abbrev pub LINK : ℕ
LINK = 7

abbrev pub MEMORY : ℕ
MEMORY = 8

abbrev pub MANAGED : ℕ
MANAGED = 9

abbrev pub PORT : ℕ
PORT = 10

abbrev pub OVERLAP : ℕ
OVERLAP = 11

abbrev pub RUNS : ℕ
RUNS = 12

abbrev pub SETUP : ℕ
SETUP = 13

abbrev pub SIZE : ℕ
SIZE = 14

abbrev pub PIN : ℕ
PIN = 15

abbrev pub QUEUE : ℕ
QUEUE = 16

abbrev pub RING : ℕ
RING = 17

abbrev pub AHEAD : ℕ
AHEAD = 18

abbrev pub HEAD : ℕ
HEAD = 19

abbrev pub CHAIN : ℕ
CHAIN = 20

abbrev pub REACH : ℕ
REACH = 21

abbrev pub SHAPE : ℕ
SHAPE = 22

abbrev pub WIDTH : ℕ
WIDTH = 23

abbrev pub HOLE : ℕ
HOLE = 24

abbrev pub SPLIT : ℕ
SPLIT = 25

abbrev pub UNPLUGGED : ℕ
UNPLUGGED = 26

abbrev pub RECORD : ℕ
RECORD = 27

-- the number of each refusal
abbrev pub number : Refusal → ℕ
number refusal.Short = SHORT
number refusal.Number = NUMBER
number refusal.Count = COUNT
number refusal.Kind = KIND
number refusal.Tail = TAIL
number refusal.Field = FIELD
number refusal.Link = LINK
number refusal.Memory = MEMORY
number refusal.Managed = MANAGED
number refusal.Port = PORT
number refusal.Overlap = OVERLAP
number refusal.Runs = RUNS
number refusal.SetUp = SETUP
number refusal.Size = SIZE
number refusal.Pin = PIN
number refusal.Queue = QUEUE
number refusal.Ring = RING
number refusal.Ahead = AHEAD
number refusal.Head = HEAD
number refusal.Chain = CHAIN
number refusal.Reach = REACH
number refusal.Shape = SHAPE
number refusal.Width = WIDTH
number refusal.Hole = HOLE
number refusal.Split = SPLIT
number refusal.Unplugged = UNPLUGGED
number refusal.Record = RECORD
