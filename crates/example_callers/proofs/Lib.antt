mod Talks
